use Rattle.clk_model.proofs.DroppedMoveLaws as laws
use Rattle.clk_model.proofs.laws.ends.timed_out_moves_stay.Goals as goal

pub returns : goal.returns
returns c = record { law = laws.timed_out_moves_stay }
