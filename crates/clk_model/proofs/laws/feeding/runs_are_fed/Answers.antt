use Rattle.clk_model.proofs.RunsFedLaws as laws
use Rattle.clk_model.proofs.laws.feeding.runs_are_fed.Goals as goal

pub returns : goal.returns
returns c = record { law = laws.runs_are_fed }
