use Rattle.dts_clocks.proofs.Verdicts.{each_decided}
use Rattle.dts_clocks.proofs.verdict.one_verdict.Goals as goal

pub returns-clause-decided : goal.returns-clause-decided
returns-clause-decided c = each_decided
