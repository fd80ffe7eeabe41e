use Rattle.clk_model.proofs.SupplyLaws.{supplied_is_fed}
use Rattle.clk_model.proofs.laws.feeding.supplied_is_fed.Goals as goal

pub returns : goal.returns
returns c = record { law = supplied_is_fed }
