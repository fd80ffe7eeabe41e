use Rattle.clk_model.proofs.RunsFedLaws as laws
use Rattle.clk_model.proofs.laws.feeding.quiet_runs_are_settled.Goals as goal

pub returns : goal.returns
returns c = record { law = laws.quiet_runs_are_settled }
