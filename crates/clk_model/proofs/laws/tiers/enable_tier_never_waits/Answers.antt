use Rattle.clk_model.proofs.InFlightLaws as flights
use Rattle.clk_model.proofs.TierLaws as laws
use Rattle.clk_model.proofs.laws.tiers.enable_tier_never_waits.Goals as goal

pub returns-clause-defined : goal.returns-clause-defined
returns-clause-defined c = laws.enable_tier_never_waits

pub returns-clause-others_wait : goal.returns-clause-others_wait
returns-clause-others_wait c = flights.others_wait
