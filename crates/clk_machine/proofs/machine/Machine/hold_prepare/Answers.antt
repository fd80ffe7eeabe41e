use Rattle.std.proofs.Common.{◌≡◌, ◌<◌, true, Some, ℕ, refl, sym, subst, length}
use Rattle.clk_base.specs.declared.call.Micro.TheVariants as micro
use Rattle.clk_model.specs.State.{registered, link_in}
use Rattle.clk_model.specs.Tree.{path_within}
use Rattle.clk_flight.specs.Flights.{own_step}
use Rattle.core_parts.specs.Letting.{LetsGoAll}
use Rattle.clk_machine.specs.Making.{ComesFirst}
use Rattle.clk_machine.specs.Parts.{Parts, parts_of}
use Rattle.clk_machine.proofs.HoldsMaking.{held_there}
use Rattle.clk_machine.proofs.PrepareHolds.{HoldsPrepared, prepared_of, prepare_enters}
use Rattle.clk_machine.proofs.LinkSteps.{Stepped}
use Rattle.core_parts.proofs.Moving.{clock_within}
use Rattle.clk_machine.proofs.Relinking.{front_gone, whole_relinked}
use Rattle.clk_machine.proofs.Room.{prepare_room, prepare_place, prepare_hold_room}
use Rattle.clk_machine.proofs.Rows.{counted_place}
use Rattle.core_parts.specs.Tied.{desc_of}
use Rattle.clk_machine.proofs.machine.Machine.hold_prepare.Goals as goal

pub hold-requires-clause-place : goal.hold-requires-clause-place
hold-requires-clause-place g c =
    let m = c.self.inside in
    let p : Parts = parts_of m.window m.tree m.handles m.counts m.notifiers m.credits m.spent m.ignore_unused m.flight m.course m.prepare_holds m.enable_holds m.steps in
    let going : p.flight.going ≡ true = subst (λ (q : Parts). q.flight.going ≡ true) (sym c.self.view_is) c.requires.going in
    let own : own_step p.flight ≡ Some (micro.HoldPrepare c.args.clock) = subst (λ (q : Parts). own_step q.flight ≡ Some (micro.HoldPrepare c.args.clock)) (sym c.self.view_is) c.requires.next in
    let there : registered m.tree.clocks c.args.clock.0 ≡ true = held_there p (micro.HoldPrepare c.args.clock) c.args.clock.0 c.self.invariant going refl own refl in
    let within : c.args.clock.0 < length m.tree.defs = clock_within (desc_of m.tree) m.window m.tree c.args.clock.0 c.self.invariant.tied there in
    counted_place p c.args.clock.0 c.self.invariant within

pub hold-requires-clause-links : goal.hold-requires-clause-links
hold-requires-clause-links g c =
    let m = c.self.inside in
    let p : Parts = parts_of m.window m.tree m.handles m.counts m.notifiers m.credits m.spent m.ignore_unused m.flight m.course m.prepare_holds m.enable_holds m.steps in
    let going : p.flight.going ≡ true = subst (λ (q : Parts). q.flight.going ≡ true) (sym c.self.view_is) c.requires.going in
    let own : own_step p.flight ≡ Some (micro.HoldPrepare c.args.clock) = subst (λ (q : Parts). own_step q.flight ≡ Some (micro.HoldPrepare c.args.clock)) (sym c.self.view_is) c.requires.next in
    c.self.invariant.counted.stands.links

pub hold-requires-clause-room : goal.hold-requires-clause-room
hold-requires-clause-room g c =
    let m = c.self.inside in
    let p : Parts = parts_of m.window m.tree m.handles m.counts m.notifiers m.credits m.spent m.ignore_unused m.flight m.course m.prepare_holds m.enable_holds m.steps in
    let going : p.flight.going ≡ true = subst (λ (q : Parts). q.flight.going ≡ true) (sym c.self.view_is) c.requires.going in
    let own : own_step p.flight ≡ Some (micro.HoldPrepare c.args.clock) = subst (λ (q : Parts). own_step q.flight ≡ Some (micro.HoldPrepare c.args.clock)) (sym c.self.view_is) c.requires.next in
    prepare_room p c.args.clock.0 c.self.invariant

pub add-requires-clause-place : goal.add-requires-clause-place
add-requires-clause-place g c =
    let m = c.self.inside in
    let p : Parts = parts_of m.window m.tree m.handles m.counts m.notifiers m.credits m.spent m.ignore_unused m.flight m.course m.prepare_holds m.enable_holds m.steps in
    let going : p.flight.going ≡ true = subst (λ (q : Parts). q.flight.going ≡ true) (sym c.self.view_is) c.requires.going in
    let own : own_step p.flight ≡ Some (micro.HoldPrepare c.args.clock) = subst (λ (q : Parts). own_step q.flight ≡ Some (micro.HoldPrepare c.args.clock)) (sym c.self.view_is) c.requires.next in
    let there : registered m.tree.clocks c.args.clock.0 ≡ true = held_there p (micro.HoldPrepare c.args.clock) c.args.clock.0 c.self.invariant going refl own refl in
    let within : c.args.clock.0 < length m.tree.defs = clock_within (desc_of m.tree) m.window m.tree c.args.clock.0 c.self.invariant.tied there in
    prepare_place p c.args.clock.0 c.self.invariant within

pub add-requires-clause-room : goal.add-requires-clause-room
add-requires-clause-room g c =
    let m = c.self.inside in
    let p : Parts = parts_of m.window m.tree m.handles m.counts m.notifiers m.credits m.spent m.ignore_unused m.flight m.course m.prepare_holds m.enable_holds m.steps in
    let going : p.flight.going ≡ true = subst (λ (q : Parts). q.flight.going ≡ true) (sym c.self.view_is) c.requires.going in
    let own : own_step p.flight ≡ Some (micro.HoldPrepare c.args.clock) = subst (λ (q : Parts). own_step q.flight ≡ Some (micro.HoldPrepare c.args.clock)) (sym c.self.view_is) c.requires.next in
    prepare_hold_room p c.args.clock.0 c.self.invariant

pub let_go_path-requires : goal.let_go_path-requires
let_go_path-requires g c =
    let m = c.self.inside in
    let p : Parts = parts_of m.window m.tree m.handles m.counts m.notifiers m.credits m.spent m.ignore_unused m.flight m.course m.prepare_holds m.enable_holds m.steps in
    let going : p.flight.going ≡ true = subst (λ (q : Parts). q.flight.going ≡ true) (sym c.self.view_is) c.requires.going in
    let own : own_step p.flight ≡ Some (micro.HoldPrepare c.args.clock) = subst (λ (q : Parts). own_step q.flight ≡ Some (micro.HoldPrepare c.args.clock)) (sym c.self.view_is) c.requires.next in
    front_gone p (micro.HoldPrepare c.args.clock) c.go_on.new.self c.self.invariant going refl own c.go_on.ensures.flight

pub invariant_of-self : goal.invariant_of-self
invariant_of-self g c =
    let m = c.self.inside in
    let p : Parts = parts_of m.window m.tree m.handles m.counts m.notifiers m.credits m.spent m.ignore_unused m.flight m.course m.prepare_holds m.enable_holds m.steps in
    let going : p.flight.going ≡ true = subst (λ (q : Parts). q.flight.going ≡ true) (sym c.self.view_is) c.requires.going in
    let own : own_step p.flight ≡ Some (micro.HoldPrepare c.args.clock) = subst (λ (q : Parts). own_step q.flight ≡ Some (micro.HoldPrepare c.args.clock)) (sym c.self.view_is) c.requires.next in
    let first : ComesFirst p (micro.HoldPrepare c.args.clock) = subst (λ (q : Parts). ComesFirst q (micro.HoldPrepare c.args.clock)) (sym c.self.view_is) c.requires.first in
    let now : Stepped p (micro.HoldPrepare c.args.clock) c.go_on.new.self = record {
      whole = c.self.invariant;
      going = going;
      is = refl;
      own = own;
      first = first;
      flight = c.go_on.ensures.flight;
      change = c.go_on.ensures.change;
      less = c.go_on.ensures.less;
    } in
    let to : HoldsPrepared p c.args.clock c.hold.new.self c.add.new.self c.go_on.new.self c.let_go_path.new.flight = record {
      counts = c.hold.ensures.holders;
      keeps = c.hold.ensures.stands;
      holds = c.add.ensures;
      lets = subst (λ (n : ℕ). LetsGoAll (path_within (link_in m.tree.clocks) n c.args.clock.0) c.go_on.new.self c.let_go_path.new.flight) c.depth.ensures c.let_go_path.ensures;
    } in
    whole_relinked p (micro.HoldPrepare c.args.clock) m.window m.tree c.hold.new.self c.add.new.self m.enable_holds c.let_go_path.new.flight (prepared_of p c.args.clock c.hold.new.self c.add.new.self c.go_on.new.self c.let_go_path.new.flight now to)

pub returns : goal.returns
returns g c =
    let m = c.self.inside in
    let p : Parts = parts_of m.window m.tree m.handles m.counts m.notifiers m.credits m.spent m.ignore_unused m.flight m.course m.prepare_holds m.enable_holds m.steps in
    let going : p.flight.going ≡ true = subst (λ (q : Parts). q.flight.going ≡ true) (sym c.self.view_is) c.requires.going in
    let own : own_step p.flight ≡ Some (micro.HoldPrepare c.args.clock) = subst (λ (q : Parts). own_step q.flight ≡ Some (micro.HoldPrepare c.args.clock)) (sym c.self.view_is) c.requires.next in
    let first : ComesFirst p (micro.HoldPrepare c.args.clock) = subst (λ (q : Parts). ComesFirst q (micro.HoldPrepare c.args.clock)) (sym c.self.view_is) c.requires.first in
    let now : Stepped p (micro.HoldPrepare c.args.clock) c.go_on.new.self = record {
      whole = c.self.invariant;
      going = going;
      is = refl;
      own = own;
      first = first;
      flight = c.go_on.ensures.flight;
      change = c.go_on.ensures.change;
      less = c.go_on.ensures.less;
    } in
    let to : HoldsPrepared p c.args.clock c.hold.new.self c.add.new.self c.go_on.new.self c.let_go_path.new.flight = record {
      counts = c.hold.ensures.holders;
      keeps = c.hold.ensures.stands;
      holds = c.add.ensures;
      lets = subst (λ (n : ℕ). LetsGoAll (path_within (link_in m.tree.clocks) n c.args.clock.0) c.go_on.new.self c.let_go_path.new.flight) c.depth.ensures c.let_go_path.ensures;
    } in
    rw (← c.self.view_is) (prepare_enters p c.args.clock c.hold.new.self c.add.new.self c.go_on.new.self c.let_go_path.new.flight now to)
