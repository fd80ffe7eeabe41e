use Rattle.clk_model.proofs.TimeoutLaws as laws
use Rattle.clk_model.proofs.laws.ends.timeouts_leave_nothing.Goals as goal

pub returns : goal.returns
returns c = record { law = laws.timeouts_leave_nothing }
