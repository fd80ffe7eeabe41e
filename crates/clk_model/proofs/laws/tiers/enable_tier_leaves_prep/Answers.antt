use Rattle.clk_model.proofs.TierLaws as laws
use Rattle.clk_model.proofs.laws.tiers.enable_tier_leaves_prep.Goals as goal

pub returns : goal.returns
returns c = record { leaves = laws.enable_tier_leaves_prep }
