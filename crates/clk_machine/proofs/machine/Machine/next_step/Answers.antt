use Rattle.std.proofs.Common.{◌≡◌, true, sym, subst}
use Rattle.clk_machine.specs.Parts.{Parts, parts_of}
use Rattle.clk_machine.proofs.Working.{works}
use Rattle.clk_machine.proofs.machine.Machine.next_step.Goals as goal

pub returns-clause-next : goal.returns-clause-next
returns-clause-next g c =
    let m = c.self.inside in
    let p : Parts = parts_of m.window m.tree m.handles m.counts m.notifiers m.credits m.spent m.ignore_unused m.flight m.course m.prepare_holds m.enable_holds m.steps in
    let going : p.flight.going ≡ true = subst (λ (q : Parts). q.flight.going ≡ true) (sym c.self.view_is) c.requires in
    rw (← c.self.view_is) (works p c.next.result c.self.invariant going c.next.ensures.step c.next.ensures.own c.next.ensures.first)
