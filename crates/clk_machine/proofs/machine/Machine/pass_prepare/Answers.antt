use Rattle.std.proofs.Common.{◌≡◌, true, Some, refl, sym, subst}
use Rattle.std.specs.Prelude.{slice_index}
use Rattle.clk_base.specs.declared.call.Micro.TheVariants as micro
use Rattle.clk_flight.specs.Flights.{own_step}
use Rattle.clk_machine.specs.Making.{ComesFirst}
use Rattle.clk_machine.specs.Parts.{Parts, parts_of}
use Rattle.clk_machine.proofs.HoldsMaking.{idle_of, idle_free}
use Rattle.clk_machine.proofs.LinkSteps.{Stepped}
use Rattle.clk_machine.proofs.Relinking.{whole_relinked}
use Rattle.clk_machine.proofs.machine.Machine.pass_prepare.Goals as goal

pub invariant_of-self : goal.invariant_of-self
invariant_of-self g c =
    let m = c.self.inside in
    let p : Parts = parts_of m.window m.tree m.handles m.counts m.notifiers m.credits m.spent m.ignore_unused m.flight m.course m.prepare_holds m.enable_holds m.steps in
    let going : p.flight.going ≡ true = subst (λ (q : Parts). q.flight.going ≡ true) (sym c.self.view_is) c.requires.going in
    let own : own_step p.flight ≡ Some (micro.DropPrepare c.args.clock) = subst (λ (q : Parts). own_step q.flight ≡ Some (micro.DropPrepare c.args.clock)) (sym c.self.view_is) c.requires.next in
    let first : ComesFirst p (micro.DropPrepare c.args.clock) = subst (λ (q : Parts). ComesFirst q (micro.DropPrepare c.args.clock)) (sym c.self.view_is) c.requires.first in
    let now : Stepped p (micro.DropPrepare c.args.clock) c.go_on.new.self = record {
      whole = c.self.invariant;
      going = going;
      is = refl;
      own = own;
      first = first;
      flight = c.go_on.ensures.flight;
      change = c.go_on.ensures.change;
      less = c.go_on.ensures.less;
    } in
    whole_relinked p (micro.DropPrepare c.args.clock) m.window m.tree m.counts m.prepare_holds m.enable_holds c.go_on.new.self (idle_of p (micro.DropPrepare c.args.clock) c.go_on.new.self now)

pub returns : goal.returns
returns g c =
    let m = c.self.inside in
    let p : Parts = parts_of m.window m.tree m.handles m.counts m.notifiers m.credits m.spent m.ignore_unused m.flight m.course m.prepare_holds m.enable_holds m.steps in
    let going : p.flight.going ≡ true = subst (λ (q : Parts). q.flight.going ≡ true) (sym c.self.view_is) c.requires.going in
    let own : own_step p.flight ≡ Some (micro.DropPrepare c.args.clock) = subst (λ (q : Parts). own_step q.flight ≡ Some (micro.DropPrepare c.args.clock)) (sym c.self.view_is) c.requires.next in
    let first : ComesFirst p (micro.DropPrepare c.args.clock) = subst (λ (q : Parts). ComesFirst q (micro.DropPrepare c.args.clock)) (sym c.self.view_is) c.requires.first in
    let now : Stepped p (micro.DropPrepare c.args.clock) c.go_on.new.self = record {
      whole = c.self.invariant;
      going = going;
      is = refl;
      own = own;
      first = first;
      flight = c.go_on.ensures.flight;
      change = c.go_on.ensures.change;
      less = c.go_on.ensures.less;
    } in
    let none : slice_index m.prepare_holds c.args.clock.0 ≡ 0 = subst (λ (q : Parts). slice_index q.prepare_holds c.args.clock.0 ≡ 0) (sym c.self.view_is) c.requires.none in
    rw (← c.self.view_is) (idle_free p c.args.clock c.go_on.new.self now none)
