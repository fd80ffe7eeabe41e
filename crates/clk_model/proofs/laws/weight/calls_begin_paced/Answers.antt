use Rattle.clk_model.proofs.CallBeginLaws.{calls_begin_paced}
use Rattle.clk_model.proofs.laws.weight.calls_begin_paced.Goals as goal

pub returns : goal.returns
returns c = record { law = calls_begin_paced }
