use Rattle.clk_model.proofs.RaisedFlightLaws as laws
use Rattle.clk_model.proofs.laws.ends.raised_end_as_prepared.Goals as goal

pub returns : goal.returns
returns c = record { law = laws.raised_end_as_prepared }
