use Rattle.std.proofs.Common.{◌≡◌, ◌<◌, true, Some, refl, sym, subst, length}
use Rattle.clk_base.specs.declared.call.Micro.TheVariants as micro
use Rattle.clk_model.specs.State.{registered}
use Rattle.clk_flight.specs.Flights.{own_step}
use Rattle.clk_machine.specs.Making.{ComesFirst}
use Rattle.clk_machine.specs.Parts.{Parts, parts_of}
use Rattle.clk_machine.proofs.HoldsMaking.{held_there}
use Rattle.clk_machine.proofs.EnableHolds.{HoldsEnabled, enabled_of, enable_enters}
use Rattle.clk_machine.proofs.LinkSteps.{Stepped}
use Rattle.core_parts.proofs.Moving.{clock_within, links_within}
use Rattle.clk_machine.proofs.Relinking.{whole_relinked}
use Rattle.clk_machine.proofs.Room.{enable_room, enable_place, enable_hold_room}
use Rattle.clk_machine.proofs.Rows.{counted_place}
use Rattle.core_parts.specs.Tied.{desc_of}
use Rattle.clk_machine.proofs.machine.Machine.hold_enable.Goals as goal

pub enable_walk-begun-requires-clause-place : goal.enable_walk-begun-requires-clause-place
enable_walk-begun-requires-clause-place g c =
    let m = c.self.inside in
    let p : Parts = parts_of m.window m.tree m.handles m.counts m.notifiers m.credits m.spent m.ignore_unused m.flight m.course m.prepare_holds m.enable_holds m.steps in
    let going : p.flight.going ≡ true = subst (λ (q : Parts). q.flight.going ≡ true) (sym c.self.view_is) c.requires.going in
    let own : own_step p.flight ≡ Some (micro.HoldEnable c.args.clock) = subst (λ (q : Parts). own_step q.flight ≡ Some (micro.HoldEnable c.args.clock)) (sym c.self.view_is) c.requires.next in
    let there : registered m.tree.clocks c.args.clock.0 ≡ true = held_there p (micro.HoldEnable c.args.clock) c.args.clock.0 c.self.invariant going refl own refl in
    let within : c.args.clock.0 < length m.tree.defs = clock_within (desc_of m.tree) m.window m.tree c.args.clock.0 c.self.invariant.tied there in
    counted_place p c.args.clock.0 c.self.invariant within

pub enable_walk-begun-requires-clause-links : goal.enable_walk-begun-requires-clause-links
enable_walk-begun-requires-clause-links g c =
    let m = c.self.inside in
    let p : Parts = parts_of m.window m.tree m.handles m.counts m.notifiers m.credits m.spent m.ignore_unused m.flight m.course m.prepare_holds m.enable_holds m.steps in
    let going : p.flight.going ≡ true = subst (λ (q : Parts). q.flight.going ≡ true) (sym c.self.view_is) c.requires.going in
    let own : own_step p.flight ≡ Some (micro.HoldEnable c.args.clock) = subst (λ (q : Parts). own_step q.flight ≡ Some (micro.HoldEnable c.args.clock)) (sym c.self.view_is) c.requires.next in
    c.self.invariant.counted.stands.links

pub enable_walk-begun-requires-clause-room : goal.enable_walk-begun-requires-clause-room
enable_walk-begun-requires-clause-room g c =
    let m = c.self.inside in
    let p : Parts = parts_of m.window m.tree m.handles m.counts m.notifiers m.credits m.spent m.ignore_unused m.flight m.course m.prepare_holds m.enable_holds m.steps in
    let going : p.flight.going ≡ true = subst (λ (q : Parts). q.flight.going ≡ true) (sym c.self.view_is) c.requires.going in
    let own : own_step p.flight ≡ Some (micro.HoldEnable c.args.clock) = subst (λ (q : Parts). own_step q.flight ≡ Some (micro.HoldEnable c.args.clock)) (sym c.self.view_is) c.requires.next in
    enable_room p c.args.clock.0 c.self.invariant

pub open_path-requires-clause-place : goal.open_path-requires-clause-place
open_path-requires-clause-place g c =
    let m = c.self.inside in
    let p : Parts = parts_of m.window m.tree m.handles m.counts m.notifiers m.credits m.spent m.ignore_unused m.flight m.course m.prepare_holds m.enable_holds m.steps in
    let going : p.flight.going ≡ true = subst (λ (q : Parts). q.flight.going ≡ true) (sym c.self.view_is) c.requires.going in
    let own : own_step p.flight ≡ Some (micro.HoldEnable c.args.clock) = subst (λ (q : Parts). own_step q.flight ≡ Some (micro.HoldEnable c.args.clock)) (sym c.self.view_is) c.requires.next in
    let there : registered m.tree.clocks c.args.clock.0 ≡ true = held_there p (micro.HoldEnable c.args.clock) c.args.clock.0 c.self.invariant going refl own refl in
    let within : c.args.clock.0 < length m.tree.defs = clock_within (desc_of m.tree) m.window m.tree c.args.clock.0 c.self.invariant.tied there in
    within

pub open_path-requires-clause-links : goal.open_path-requires-clause-links
open_path-requires-clause-links g c =
    let m = c.self.inside in
    let p : Parts = parts_of m.window m.tree m.handles m.counts m.notifiers m.credits m.spent m.ignore_unused m.flight m.course m.prepare_holds m.enable_holds m.steps in
    let going : p.flight.going ≡ true = subst (λ (q : Parts). q.flight.going ≡ true) (sym c.self.view_is) c.requires.going in
    let own : own_step p.flight ≡ Some (micro.HoldEnable c.args.clock) = subst (λ (q : Parts). own_step q.flight ≡ Some (micro.HoldEnable c.args.clock)) (sym c.self.view_is) c.requires.next in
    links_within (desc_of m.tree) m.window m.tree c.self.invariant.tied

pub add-requires-clause-place : goal.add-requires-clause-place
add-requires-clause-place g c =
    let m = c.self.inside in
    let p : Parts = parts_of m.window m.tree m.handles m.counts m.notifiers m.credits m.spent m.ignore_unused m.flight m.course m.prepare_holds m.enable_holds m.steps in
    let going : p.flight.going ≡ true = subst (λ (q : Parts). q.flight.going ≡ true) (sym c.self.view_is) c.requires.going in
    let own : own_step p.flight ≡ Some (micro.HoldEnable c.args.clock) = subst (λ (q : Parts). own_step q.flight ≡ Some (micro.HoldEnable c.args.clock)) (sym c.self.view_is) c.requires.next in
    let there : registered m.tree.clocks c.args.clock.0 ≡ true = held_there p (micro.HoldEnable c.args.clock) c.args.clock.0 c.self.invariant going refl own refl in
    let within : c.args.clock.0 < length m.tree.defs = clock_within (desc_of m.tree) m.window m.tree c.args.clock.0 c.self.invariant.tied there in
    enable_place p c.args.clock.0 c.self.invariant within

pub add-requires-clause-room : goal.add-requires-clause-room
add-requires-clause-room g c =
    let m = c.self.inside in
    let p : Parts = parts_of m.window m.tree m.handles m.counts m.notifiers m.credits m.spent m.ignore_unused m.flight m.course m.prepare_holds m.enable_holds m.steps in
    let going : p.flight.going ≡ true = subst (λ (q : Parts). q.flight.going ≡ true) (sym c.self.view_is) c.requires.going in
    let own : own_step p.flight ≡ Some (micro.HoldEnable c.args.clock) = subst (λ (q : Parts). own_step q.flight ≡ Some (micro.HoldEnable c.args.clock)) (sym c.self.view_is) c.requires.next in
    enable_hold_room p c.args.clock.0 c.self.invariant

pub invariant_of-self : goal.invariant_of-self
invariant_of-self g c =
    let m = c.self.inside in
    let p : Parts = parts_of m.window m.tree m.handles m.counts m.notifiers m.credits m.spent m.ignore_unused m.flight m.course m.prepare_holds m.enable_holds m.steps in
    let going : p.flight.going ≡ true = subst (λ (q : Parts). q.flight.going ≡ true) (sym c.self.view_is) c.requires.going in
    let own : own_step p.flight ≡ Some (micro.HoldEnable c.args.clock) = subst (λ (q : Parts). own_step q.flight ≡ Some (micro.HoldEnable c.args.clock)) (sym c.self.view_is) c.requires.next in
    let first : ComesFirst p (micro.HoldEnable c.args.clock) = subst (λ (q : Parts). ComesFirst q (micro.HoldEnable c.args.clock)) (sym c.self.view_is) c.requires.first in
    let now : Stepped p (micro.HoldEnable c.args.clock) c.go_on.new.self = record {
      whole = c.self.invariant;
      going = going;
      is = refl;
      own = own;
      first = first;
      flight = c.go_on.ensures.flight;
      change = c.go_on.ensures.change;
      less = c.go_on.ensures.less;
    } in
    let to : HoldsEnabled p c.args.clock c.enable_walk-begun.result c.open_path.new.window c.enable_walk-begun.new.self c.add.new.self = record {
      size = c.open_path.ensures.size;
      behind = c.open_path.ensures.behind;
      locks = c.open_path.ensures.locks;
      words = c.open_path.ensures.words;
      counts = c.enable_walk-begun.ensures.holders;
      begun = c.enable_walk-begun.ensures.begun;
      keeps = c.enable_walk-begun.ensures.stands;
      holds = c.add.ensures;
    } in
    whole_relinked p (micro.HoldEnable c.args.clock) c.open_path.new.window m.tree c.enable_walk-begun.new.self m.prepare_holds c.add.new.self c.go_on.new.self (enabled_of p c.args.clock c.enable_walk-begun.result c.open_path.new.window c.enable_walk-begun.new.self c.add.new.self c.go_on.new.self now to)

pub returns : goal.returns
returns g c =
    let m = c.self.inside in
    let p : Parts = parts_of m.window m.tree m.handles m.counts m.notifiers m.credits m.spent m.ignore_unused m.flight m.course m.prepare_holds m.enable_holds m.steps in
    let going : p.flight.going ≡ true = subst (λ (q : Parts). q.flight.going ≡ true) (sym c.self.view_is) c.requires.going in
    let own : own_step p.flight ≡ Some (micro.HoldEnable c.args.clock) = subst (λ (q : Parts). own_step q.flight ≡ Some (micro.HoldEnable c.args.clock)) (sym c.self.view_is) c.requires.next in
    let first : ComesFirst p (micro.HoldEnable c.args.clock) = subst (λ (q : Parts). ComesFirst q (micro.HoldEnable c.args.clock)) (sym c.self.view_is) c.requires.first in
    let now : Stepped p (micro.HoldEnable c.args.clock) c.go_on.new.self = record {
      whole = c.self.invariant;
      going = going;
      is = refl;
      own = own;
      first = first;
      flight = c.go_on.ensures.flight;
      change = c.go_on.ensures.change;
      less = c.go_on.ensures.less;
    } in
    let to : HoldsEnabled p c.args.clock c.enable_walk-begun.result c.open_path.new.window c.enable_walk-begun.new.self c.add.new.self = record {
      size = c.open_path.ensures.size;
      behind = c.open_path.ensures.behind;
      locks = c.open_path.ensures.locks;
      words = c.open_path.ensures.words;
      counts = c.enable_walk-begun.ensures.holders;
      begun = c.enable_walk-begun.ensures.begun;
      keeps = c.enable_walk-begun.ensures.stands;
      holds = c.add.ensures;
    } in
    rw (← c.self.view_is) (enable_enters p c.args.clock c.enable_walk-begun.result c.open_path.new.window c.enable_walk-begun.new.self c.add.new.self c.go_on.new.self now to)
