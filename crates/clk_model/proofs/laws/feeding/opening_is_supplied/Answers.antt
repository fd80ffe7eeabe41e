use Rattle.clk_model.proofs.GatesFollowLaws.{opening_is_supplied}
use Rattle.clk_model.proofs.laws.feeding.opening_is_supplied.Goals as goal

pub returns : goal.returns
returns c = record { law = opening_is_supplied }
