use Rattle.clk_machine.proofs.Tracing.{traces_next}
use Rattle.clk_machine.proofs.prep.Prep.trace.Goals as goal

pub loop-entry-preserved : goal.loop-entry-preserved
loop-entry-preserved c =
    let made = c.in_ok-trace_entry.ensures in
    traces_next c.args.self.now c.loop-entry.self c.trace_entry.new.self c.args.journal.now c.loop-entry.entry-index _ c.loop-entry-test.true c.loop-entry.invariant made.follows made.beside made.rest made.same
