use Rattle.clk_model.proofs.SupplyLaws.{enable_tier_keeps_fed}
use Rattle.clk_model.proofs.laws.feeding.enable_tier_keeps_fed.Goals as goal

pub returns : goal.returns
returns c = record { law = enable_tier_keeps_fed }
