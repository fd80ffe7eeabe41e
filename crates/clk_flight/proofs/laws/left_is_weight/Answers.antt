-- The law.
use Rattle.clk_flight.proofs.WeighLaws.{left_is_weight}
use Rattle.clk_flight.proofs.laws.left_is_weight.Goals as goal

pub returns : goal.returns
returns c = record { law = left_is_weight }
