use Rattle.clk_model.proofs.PacedStepLaws.{steps_lower_weight}
use Rattle.clk_model.proofs.laws.weight.steps_lower_weight.Goals as goal

pub returns : goal.returns
returns c = record { law = steps_lower_weight }
