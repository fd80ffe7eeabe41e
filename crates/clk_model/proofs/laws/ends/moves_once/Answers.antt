use Rattle.clk_model.proofs.DroppedMoveLaws as laws
use Rattle.clk_model.proofs.laws.ends.moves_once.Goals as goal

pub returns : goal.returns
returns c = record { law = laws.moves_once }
