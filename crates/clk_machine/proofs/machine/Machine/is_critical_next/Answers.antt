use Rattle.std.proofs.Common.{◌≡◌, true, Some, sym, subst}
use Rattle.clk_base.specs.declared.call.Micro.TheVariants as micro
use Rattle.clk_flight.specs.Flights.{own_step}
use Rattle.clk_machine.specs.Parts.{Parts, parts_of}
use Rattle.clk_machine.proofs.Joining.{may_join}
use Rattle.clk_machine.proofs.machine.Machine.is_critical_next.Goals as goal

pub is_critical-requires : goal.is_critical-requires
is_critical-requires g c =
    let m = c.self.inside in
    let p : Parts = parts_of m.window m.tree m.handles m.counts m.notifiers m.credits m.spent m.ignore_unused m.flight m.course m.prepare_holds m.enable_holds m.steps in
    let going : p.flight.going ≡ true = subst (λ (q : Parts). q.flight.going ≡ true) (sym c.self.view_is) c.requires.going in
    let own : own_step p.flight ≡ Some (micro.Register c.args.clock) = subst (λ (q : Parts). own_step q.flight ≡ Some (micro.Register c.args.clock)) (sym c.self.view_is) c.requires.next in
    let may = may_join p c.args.clock c.self.invariant going own in
    may.place
