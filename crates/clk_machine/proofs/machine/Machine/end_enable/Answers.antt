use Rattle.std.proofs.Common.{◌≡◌, ◌<◌, true, Some, refl, sym, subst, arith, length}
use Rattle.std.specs.Prelude.{slice_index}
use Rattle.clk_base.specs.declared.call.Micro.TheVariants as micro
use Rattle.clk_model.specs.State.{registered}
use Rattle.clk_flight.specs.Flights.{own_step}
use Rattle.clk_machine.specs.Making.{ComesFirst}
use Rattle.clk_machine.specs.Parts.{Parts, parts_of}
use Rattle.clk_machine.proofs.HoldsMaking.{held_there}
use Rattle.clk_machine.proofs.EnableHolds.{DropsEnabled, dropped_of, drop_enters}
use Rattle.clk_machine.proofs.LinkSteps.{Stepped}
use Rattle.core_parts.proofs.Moving.{clock_within, links_within}
use Rattle.clk_machine.proofs.Relinking.{whole_relinked}
use Rattle.clk_machine.proofs.Room.{enable_place, enable_owned}
use Rattle.clk_machine.proofs.Rows.{counted_place}
use Rattle.core_parts.specs.Tied.{desc_of}
use Rattle.clk_machine.proofs.machine.Machine.end_enable.Goals as goal

pub disable_walk-stopped-requires-clause-place : goal.disable_walk-stopped-requires-clause-place
disable_walk-stopped-requires-clause-place g c =
    let m = c.self.inside in
    let p : Parts = parts_of m.window m.tree m.handles m.counts m.notifiers m.credits m.spent m.ignore_unused m.flight m.course m.prepare_holds m.enable_holds m.steps in
    let going : p.flight.going ≡ true = subst (λ (q : Parts). q.flight.going ≡ true) (sym c.self.view_is) c.requires.going in
    let own : own_step p.flight ≡ Some (micro.DropEnable c.args.clock) = subst (λ (q : Parts). own_step q.flight ≡ Some (micro.DropEnable c.args.clock)) (sym c.self.view_is) c.requires.next in
    let there : registered m.tree.clocks c.args.clock.0 ≡ true = held_there p (micro.DropEnable c.args.clock) c.args.clock.0 c.self.invariant going refl own refl in
    let within : c.args.clock.0 < length m.tree.defs = clock_within (desc_of m.tree) m.window m.tree c.args.clock.0 c.self.invariant.tied there in
    counted_place p c.args.clock.0 c.self.invariant within

pub disable_walk-stopped-requires-clause-links : goal.disable_walk-stopped-requires-clause-links
disable_walk-stopped-requires-clause-links g c =
    let m = c.self.inside in
    let p : Parts = parts_of m.window m.tree m.handles m.counts m.notifiers m.credits m.spent m.ignore_unused m.flight m.course m.prepare_holds m.enable_holds m.steps in
    let going : p.flight.going ≡ true = subst (λ (q : Parts). q.flight.going ≡ true) (sym c.self.view_is) c.requires.going in
    let own : own_step p.flight ≡ Some (micro.DropEnable c.args.clock) = subst (λ (q : Parts). own_step q.flight ≡ Some (micro.DropEnable c.args.clock)) (sym c.self.view_is) c.requires.next in
    c.self.invariant.counted.stands.links

pub disable_walk-stopped-requires-clause-held : goal.disable_walk-stopped-requires-clause-held
disable_walk-stopped-requires-clause-held g c =
    let m = c.self.inside in
    let p : Parts = parts_of m.window m.tree m.handles m.counts m.notifiers m.credits m.spent m.ignore_unused m.flight m.course m.prepare_holds m.enable_holds m.steps in
    let going : p.flight.going ≡ true = subst (λ (q : Parts). q.flight.going ≡ true) (sym c.self.view_is) c.requires.going in
    let own : own_step p.flight ≡ Some (micro.DropEnable c.args.clock) = subst (λ (q : Parts). own_step q.flight ≡ Some (micro.DropEnable c.args.clock)) (sym c.self.view_is) c.requires.next in
    let some : 0 < slice_index m.enable_holds c.args.clock.0 = subst (λ (q : Parts). 0 < slice_index q.enable_holds c.args.clock.0) (sym c.self.view_is) c.requires.some in
    let owned = enable_owned p c.args.clock.0 c.self.invariant in omega arith

pub close_path-requires-clause-place : goal.close_path-requires-clause-place
close_path-requires-clause-place g c =
    let m = c.self.inside in
    let p : Parts = parts_of m.window m.tree m.handles m.counts m.notifiers m.credits m.spent m.ignore_unused m.flight m.course m.prepare_holds m.enable_holds m.steps in
    let going : p.flight.going ≡ true = subst (λ (q : Parts). q.flight.going ≡ true) (sym c.self.view_is) c.requires.going in
    let own : own_step p.flight ≡ Some (micro.DropEnable c.args.clock) = subst (λ (q : Parts). own_step q.flight ≡ Some (micro.DropEnable c.args.clock)) (sym c.self.view_is) c.requires.next in
    let there : registered m.tree.clocks c.args.clock.0 ≡ true = held_there p (micro.DropEnable c.args.clock) c.args.clock.0 c.self.invariant going refl own refl in
    let within : c.args.clock.0 < length m.tree.defs = clock_within (desc_of m.tree) m.window m.tree c.args.clock.0 c.self.invariant.tied there in
    within

pub close_path-requires-clause-links : goal.close_path-requires-clause-links
close_path-requires-clause-links g c =
    let m = c.self.inside in
    let p : Parts = parts_of m.window m.tree m.handles m.counts m.notifiers m.credits m.spent m.ignore_unused m.flight m.course m.prepare_holds m.enable_holds m.steps in
    let going : p.flight.going ≡ true = subst (λ (q : Parts). q.flight.going ≡ true) (sym c.self.view_is) c.requires.going in
    let own : own_step p.flight ≡ Some (micro.DropEnable c.args.clock) = subst (λ (q : Parts). own_step q.flight ≡ Some (micro.DropEnable c.args.clock)) (sym c.self.view_is) c.requires.next in
    links_within (desc_of m.tree) m.window m.tree c.self.invariant.tied

pub drop_one-requires-clause-place : goal.drop_one-requires-clause-place
drop_one-requires-clause-place g c =
    let m = c.self.inside in
    let p : Parts = parts_of m.window m.tree m.handles m.counts m.notifiers m.credits m.spent m.ignore_unused m.flight m.course m.prepare_holds m.enable_holds m.steps in
    let going : p.flight.going ≡ true = subst (λ (q : Parts). q.flight.going ≡ true) (sym c.self.view_is) c.requires.going in
    let own : own_step p.flight ≡ Some (micro.DropEnable c.args.clock) = subst (λ (q : Parts). own_step q.flight ≡ Some (micro.DropEnable c.args.clock)) (sym c.self.view_is) c.requires.next in
    let there : registered m.tree.clocks c.args.clock.0 ≡ true = held_there p (micro.DropEnable c.args.clock) c.args.clock.0 c.self.invariant going refl own refl in
    let within : c.args.clock.0 < length m.tree.defs = clock_within (desc_of m.tree) m.window m.tree c.args.clock.0 c.self.invariant.tied there in
    enable_place p c.args.clock.0 c.self.invariant within

pub drop_one-requires-clause-held : goal.drop_one-requires-clause-held
drop_one-requires-clause-held g c =
    let m = c.self.inside in
    let p : Parts = parts_of m.window m.tree m.handles m.counts m.notifiers m.credits m.spent m.ignore_unused m.flight m.course m.prepare_holds m.enable_holds m.steps in
    let going : p.flight.going ≡ true = subst (λ (q : Parts). q.flight.going ≡ true) (sym c.self.view_is) c.requires.going in
    let own : own_step p.flight ≡ Some (micro.DropEnable c.args.clock) = subst (λ (q : Parts). own_step q.flight ≡ Some (micro.DropEnable c.args.clock)) (sym c.self.view_is) c.requires.next in
    let some : 0 < slice_index m.enable_holds c.args.clock.0 = subst (λ (q : Parts). 0 < slice_index q.enable_holds c.args.clock.0) (sym c.self.view_is) c.requires.some in
    some

pub invariant_of-self : goal.invariant_of-self
invariant_of-self g c =
    let m = c.self.inside in
    let p : Parts = parts_of m.window m.tree m.handles m.counts m.notifiers m.credits m.spent m.ignore_unused m.flight m.course m.prepare_holds m.enable_holds m.steps in
    let going : p.flight.going ≡ true = subst (λ (q : Parts). q.flight.going ≡ true) (sym c.self.view_is) c.requires.going in
    let own : own_step p.flight ≡ Some (micro.DropEnable c.args.clock) = subst (λ (q : Parts). own_step q.flight ≡ Some (micro.DropEnable c.args.clock)) (sym c.self.view_is) c.requires.next in
    let first : ComesFirst p (micro.DropEnable c.args.clock) = subst (λ (q : Parts). ComesFirst q (micro.DropEnable c.args.clock)) (sym c.self.view_is) c.requires.first in
    let now : Stepped p (micro.DropEnable c.args.clock) c.go_on.new.self = record {
      whole = c.self.invariant;
      going = going;
      is = refl;
      own = own;
      first = first;
      flight = c.go_on.ensures.flight;
      change = c.go_on.ensures.change;
      less = c.go_on.ensures.less;
    } in
    let some : 0 < slice_index m.enable_holds c.args.clock.0 = subst (λ (q : Parts). 0 < slice_index q.enable_holds c.args.clock.0) (sym c.self.view_is) c.requires.some in
    let to : DropsEnabled p c.args.clock c.disable_walk-stopped.result c.close_path.new.window c.disable_walk-stopped.new.self c.drop_one.new.self = record {
      some = some;
      size = c.close_path.ensures.size;
      behind = c.close_path.ensures.behind;
      locks = c.close_path.ensures.locks;
      words = c.close_path.ensures.words;
      counts = c.disable_walk-stopped.ensures.holders;
      stopped = c.disable_walk-stopped.ensures.stopped;
      keeps = c.disable_walk-stopped.ensures.stands;
      holds = c.drop_one.ensures;
    } in
    whole_relinked p (micro.DropEnable c.args.clock) c.close_path.new.window m.tree c.disable_walk-stopped.new.self m.prepare_holds c.drop_one.new.self c.go_on.new.self (dropped_of p c.args.clock c.disable_walk-stopped.result c.close_path.new.window c.disable_walk-stopped.new.self c.drop_one.new.self c.go_on.new.self now to)

pub returns : goal.returns
returns g c =
    let m = c.self.inside in
    let p : Parts = parts_of m.window m.tree m.handles m.counts m.notifiers m.credits m.spent m.ignore_unused m.flight m.course m.prepare_holds m.enable_holds m.steps in
    let going : p.flight.going ≡ true = subst (λ (q : Parts). q.flight.going ≡ true) (sym c.self.view_is) c.requires.going in
    let own : own_step p.flight ≡ Some (micro.DropEnable c.args.clock) = subst (λ (q : Parts). own_step q.flight ≡ Some (micro.DropEnable c.args.clock)) (sym c.self.view_is) c.requires.next in
    let first : ComesFirst p (micro.DropEnable c.args.clock) = subst (λ (q : Parts). ComesFirst q (micro.DropEnable c.args.clock)) (sym c.self.view_is) c.requires.first in
    let now : Stepped p (micro.DropEnable c.args.clock) c.go_on.new.self = record {
      whole = c.self.invariant;
      going = going;
      is = refl;
      own = own;
      first = first;
      flight = c.go_on.ensures.flight;
      change = c.go_on.ensures.change;
      less = c.go_on.ensures.less;
    } in
    let some : 0 < slice_index m.enable_holds c.args.clock.0 = subst (λ (q : Parts). 0 < slice_index q.enable_holds c.args.clock.0) (sym c.self.view_is) c.requires.some in
    let to : DropsEnabled p c.args.clock c.disable_walk-stopped.result c.close_path.new.window c.disable_walk-stopped.new.self c.drop_one.new.self = record {
      some = some;
      size = c.close_path.ensures.size;
      behind = c.close_path.ensures.behind;
      locks = c.close_path.ensures.locks;
      words = c.close_path.ensures.words;
      counts = c.disable_walk-stopped.ensures.holders;
      stopped = c.disable_walk-stopped.ensures.stopped;
      keeps = c.disable_walk-stopped.ensures.stands;
      holds = c.drop_one.ensures;
    } in
    rw (← c.self.view_is) (drop_enters p c.args.clock c.disable_walk-stopped.result c.close_path.new.window c.disable_walk-stopped.new.self c.drop_one.new.self c.go_on.new.self now to)
