use Rattle.clk_model.proofs.UnmovedLaws as laws
use Rattle.clk_model.proofs.laws.ends.unmoved_stay.Goals as goal

pub returns : goal.returns
returns c = record { law = laws.unmoved_stay }
