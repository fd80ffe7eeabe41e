use Rattle.clk_model.proofs.WholePathLaws.{paths_end}
use Rattle.clk_model.proofs.laws.paths.paths_end.Goals as goal

pub returns : goal.returns
returns c = record { law = paths_end }
