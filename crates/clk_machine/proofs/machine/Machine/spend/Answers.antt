use Rattle.std.proofs.Common.{◌<◌}
use Rattle.clk_machine.specs.Parts.{parts_of}
use Rattle.clk_machine.proofs.Writing.{whole_spent, becomes_spent}
use Rattle.clk_machine.proofs.machine.Machine.spend.Goals as goal

pub returns : goal.returns
returns g c =
    let m = c.self.inside in
    rw (← c.self.view_is) (becomes_spent (parts_of m.window m.tree m.handles m.counts m.notifiers m.credits m.spent m.ignore_unused m.flight m.course m.prepare_holds m.enable_holds m.steps))

pub invariant_of-self : goal.invariant_of-self
invariant_of-self g c =
    let m = c.self.inside in
    let left : m.spent < m.credits = rw (← c.self.view_is) at c.requires in
    whole_spent (parts_of m.window m.tree m.handles m.counts m.notifiers m.credits m.spent m.ignore_unused m.flight m.course m.prepare_holds m.enable_holds m.steps) c.self.invariant left
