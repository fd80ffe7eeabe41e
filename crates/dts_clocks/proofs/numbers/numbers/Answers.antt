use Rattle.std.proofs.Common.{ap, rules}
use Rattle.dts_clocks.specs.Clocks.{clock_id}
use Rattle.dts_clocks.proofs.Numbering.{number_more}
use Rattle.dts_clocks.proofs.numbers.numbers.Goals as goal

pub loop-at-preserved : goal.loop-at-preserved
loop-at-preserved c = λ s. number_more c.args.heads.now c.loop-at.at _ s _ _ _ c.loop-at-test.true (ap clock_id (search rules)) (c.loop-at.invariant s) (c.in_ok-note_clock.ensures s)
