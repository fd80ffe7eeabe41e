use Rattle.clk_model.proofs.TierPacedLaws.{enable_tier_keeps_paced}
use Rattle.clk_model.proofs.laws.weight.enable_tier_keeps_paced.Goals as goal

pub returns : goal.returns
returns c = record { law = enable_tier_keeps_paced }
