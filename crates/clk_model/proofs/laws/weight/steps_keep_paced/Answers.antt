use Rattle.clk_model.proofs.PaceLaws.{steps_keep_paced}
use Rattle.clk_model.proofs.laws.weight.steps_keep_paced.Goals as goal

pub returns : goal.returns
returns c = record { law = steps_keep_paced }
