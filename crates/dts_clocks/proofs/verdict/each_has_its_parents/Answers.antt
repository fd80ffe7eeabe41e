use Rattle.dts_clocks.proofs.Parented.{parented}
use Rattle.dts_clocks.proofs.verdict.each_has_its_parents.Goals as goal

pub returns : goal.returns
returns c = parented
