use Rattle.clk_machine.specs.Parts.{Parts, parts_of}
use Rattle.clk_machine.proofs.SweptAlong.{whole_halted, stands_halted}
use Rattle.clk_machine.proofs.machine.Machine.halt.Goals as goal

pub invariant_of-self : goal.invariant_of-self
invariant_of-self g c =
    let m = c.self.inside in
    let p : Parts = parts_of m.window m.tree m.handles m.counts m.notifiers m.credits m.spent m.ignore_unused m.flight m.course m.prepare_holds m.enable_holds m.steps in
    whole_halted p c.end.new.self c.self.invariant c.end.ensures.quiet

pub returns-clause-stands : goal.returns-clause-stands
returns-clause-stands g c =
    let m = c.self.inside in
    let p : Parts = parts_of m.window m.tree m.handles m.counts m.notifiers m.credits m.spent m.ignore_unused m.flight m.course m.prepare_holds m.enable_holds m.steps in
    rw (← c.self.view_is) (stands_halted p c.end.new.self c.end.ensures.quiet)
