use Rattle.clk_model.proofs.LiftLaws.{lifting_sees}
use Rattle.clk_model.proofs.laws.planning.lifting_frees_or_keeps.Goals as goal

pub returns : goal.returns
returns c = record { law = lifting_sees }
