use Rattle.clk_model.proofs.RootLaws.{rooted_ends_fixed}
use Rattle.clk_model.proofs.laws.paths.rooted_ends_fixed.Goals as goal

pub returns : goal.returns
returns c = record { law = rooted_ends_fixed }
