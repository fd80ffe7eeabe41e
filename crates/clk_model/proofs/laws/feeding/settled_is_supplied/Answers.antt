use Rattle.clk_model.proofs.SupplyLaws.{settled_is_supplied}
use Rattle.clk_model.proofs.laws.feeding.settled_is_supplied.Goals as goal

pub returns : goal.returns
returns c = record { law = settled_is_supplied }
