use Rattle.clk_model.proofs.PrepEventLaws.{decisions_read_prep}
use Rattle.clk_model.proofs.laws.planning.decisions_read_prep.Goals as goal

pub returns : goal.returns
returns c = record { law = decisions_read_prep }
