use Rattle.clk_model.proofs.ExclusiveLaws as laws
use Rattle.clk_model.proofs.laws.exclusives.rate_stays_while_exclusive.Goals as goal

pub returns : goal.returns
returns c = record { law = laws.rates_stay_exclusive }
