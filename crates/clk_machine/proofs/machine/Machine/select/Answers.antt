use Rattle.std.proofs.Common.{◌≡◌, None, true, Some, refl, sym, subst}
use Rattle.clk_base.specs.declared.call.Micro.TheVariants as micro
use Rattle.clk_flight.specs.Flights.{own_step}
use Rattle.clk_machine.specs.Making.{ComesFirst}
use Rattle.clk_machine.specs.Parts.{Parts, parts_of}
use Rattle.core_parts.proofs.Moving.{clock_within}
use Rattle.clk_machine.proofs.Relinking.{with_relinked, whole_relinked}
use Rattle.clk_machine.proofs.LinkSteps.{Stepped}
use Rattle.clk_machine.proofs.Selecting.{Selects, may_select, select_fits, selected_of, select_enters}
use Rattle.core_parts.specs.Tied.{desc_of}
use Rattle.clk_machine.proofs.Described.{whole_described, enters_described}
use Rattle.core_parts.proofs.Described.{desc_same}
use Rattle.clk_base.specs.declared.event.Event.TheVariants as event
use Rattle.clk_base.specs.declared.event.Turn.TheVariants as turn
use Rattle.clk_machine.proofs.machine.Machine.select.Goals as goal

pub set_to-requires-clause-place : goal.set_to-requires-clause-place
set_to-requires-clause-place g c =
    let m = c.self.inside in
    let p : Parts = parts_of m.window m.tree m.handles m.counts m.notifiers m.credits m.spent m.ignore_unused m.flight m.course m.prepare_holds m.enable_holds m.steps in
    let going : p.flight.going ≡ true = subst (λ (q : Parts). q.flight.going ≡ true) (sym c.self.view_is) c.requires.going in
    let own : own_step p.flight ≡ Some (micro.WriteMux c.args.clock c.args.place) = subst (λ (q : Parts). own_step q.flight ≡ Some (micro.WriteMux c.args.clock c.args.place)) (sym c.self.view_is) c.requires.next in
    let may = may_select p c.args.clock c.args.place c.self.invariant going own in
    clock_within (desc_of m.tree) m.window m.tree c.args.clock.0 c.self.invariant.tied may.there

pub set_to-requires-clause-fits : goal.set_to-requires-clause-fits
set_to-requires-clause-fits g c =
    let m = c.self.inside in
    let p : Parts = parts_of m.window m.tree m.handles m.counts m.notifiers m.credits m.spent m.ignore_unused m.flight m.course m.prepare_holds m.enable_holds m.steps in
    let going : p.flight.going ≡ true = subst (λ (q : Parts). q.flight.going ≡ true) (sym c.self.view_is) c.requires.going in
    let own : own_step p.flight ≡ Some (micro.WriteMux c.args.clock c.args.place) = subst (λ (q : Parts). own_step q.flight ≡ Some (micro.WriteMux c.args.clock c.args.place)) (sym c.self.view_is) c.requires.next in
    let may = may_select p c.args.clock c.args.place c.self.invariant going own in
    select_fits p c.args.clock c.args.place c.self.invariant may

pub invariant_of-self : goal.invariant_of-self
invariant_of-self g c =
    let m = c.self.inside in
    let p : Parts = parts_of m.window m.tree m.handles m.counts m.notifiers m.credits m.spent m.ignore_unused m.flight m.course m.prepare_holds m.enable_holds m.steps in
    let going : p.flight.going ≡ true = subst (λ (q : Parts). q.flight.going ≡ true) (sym c.self.view_is) c.requires.going in
    let own : own_step p.flight ≡ Some (micro.WriteMux c.args.clock c.args.place) = subst (λ (q : Parts). own_step q.flight ≡ Some (micro.WriteMux c.args.clock c.args.place)) (sym c.self.view_is) c.requires.next in
    let first : ComesFirst p (micro.WriteMux c.args.clock c.args.place) = subst (λ (q : Parts). ComesFirst q (micro.WriteMux c.args.clock c.args.place)) (sym c.self.view_is) c.requires.first in
    let now : Stepped p (micro.WriteMux c.args.clock c.args.place) c.go_on.new.self = record {
      whole = c.self.invariant;
      going = going;
      is = refl;
      own = own;
      first = first;
      flight = c.go_on.ensures.flight;
      change = c.go_on.ensures.change;
      less = c.go_on.ensures.less;
    } in
    let to : Selects p c.args.clock c.args.place c.set_to.new.window c.set_to.new.tree = record {
      size = c.set_to.ensures.size;
      words = c.set_to.ensures.words;
      behind = c.set_to.ensures.behind;
      locks = c.set_to.ensures.locks;
      told = c.set_to.ensures.told;
      kept = c.set_to.ensures.kept;
      rows = c.set_to.ensures.rows;
      order = c.set_to.ensures.order;
      defs = c.set_to.ensures.defs;
      stands = c.set_to.ensures.stands;
    } in
    whole_described (with_relinked p c.set_to.new.window c.set_to.new.tree m.counts m.prepare_holds m.enable_holds c.go_on.new.self) (desc_same c.set_to.new.tree m.tree c.set_to.ensures.checked c.set_to.ensures.defs)
    (whole_relinked p (micro.WriteMux c.args.clock c.args.place) c.set_to.new.window c.set_to.new.tree m.counts m.prepare_holds m.enable_holds c.go_on.new.self (selected_of p c.args.clock c.args.place c.set_to.new.window c.set_to.new.tree c.go_on.new.self now to))

pub returns : goal.returns
returns g c =
    let m = c.self.inside in
    let p : Parts = parts_of m.window m.tree m.handles m.counts m.notifiers m.credits m.spent m.ignore_unused m.flight m.course m.prepare_holds m.enable_holds m.steps in
    let going : p.flight.going ≡ true = subst (λ (q : Parts). q.flight.going ≡ true) (sym c.self.view_is) c.requires.going in
    let own : own_step p.flight ≡ Some (micro.WriteMux c.args.clock c.args.place) = subst (λ (q : Parts). own_step q.flight ≡ Some (micro.WriteMux c.args.clock c.args.place)) (sym c.self.view_is) c.requires.next in
    let first : ComesFirst p (micro.WriteMux c.args.clock c.args.place) = subst (λ (q : Parts). ComesFirst q (micro.WriteMux c.args.clock c.args.place)) (sym c.self.view_is) c.requires.first in
    let now : Stepped p (micro.WriteMux c.args.clock c.args.place) c.go_on.new.self = record {
      whole = c.self.invariant;
      going = going;
      is = refl;
      own = own;
      first = first;
      flight = c.go_on.ensures.flight;
      change = c.go_on.ensures.change;
      less = c.go_on.ensures.less;
    } in
    let to : Selects p c.args.clock c.args.place c.set_to.new.window c.set_to.new.tree = record {
      size = c.set_to.ensures.size;
      words = c.set_to.ensures.words;
      behind = c.set_to.ensures.behind;
      locks = c.set_to.ensures.locks;
      told = c.set_to.ensures.told;
      kept = c.set_to.ensures.kept;
      rows = c.set_to.ensures.rows;
      order = c.set_to.ensures.order;
      defs = c.set_to.ensures.defs;
      stands = c.set_to.ensures.stands;
    } in
    rw (← c.self.view_is)
    (enters_described p p.flight.driver (event.Step (micro.WriteMux c.args.clock c.args.place) None) turn.Going (with_relinked p c.set_to.new.window c.set_to.new.tree m.counts m.prepare_holds m.enable_holds c.go_on.new.self) (desc_same c.set_to.new.tree m.tree c.set_to.ensures.checked c.set_to.ensures.defs)
    (select_enters p c.args.clock c.args.place c.set_to.new.window c.set_to.new.tree c.go_on.new.self now to))
