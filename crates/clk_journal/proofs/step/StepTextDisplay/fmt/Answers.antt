use Rattle.std.proofs.Common.{append_assoc}
use Rattle.clk_journal.proofs.step.StepTextDisplay.fmt.Goals as goal

pub returns-in-Pre-false-clause-writes : goal.returns-in-Pre-false-clause-writes
returns-in-Pre-false-clause-writes g c =
    let written = simp append_assoc at c.write-in-Pre-false.ensures.writes in
    rw (c.in-Notify.is, c.in-Pre-false.is, c.in-Pre-false.field-0-test) (simp append_assoc written)
