use Rattle.dts_clocks.proofs.ClockNames.{named}
use Rattle.dts_clocks.proofs.verdict.each_has_its_name.Goals as goal

pub returns : goal.returns
returns c = named
