-- The law.
use Rattle.clk_flight.proofs.SeekLaws.{paced_seek_few}
use Rattle.clk_flight.proofs.laws.paced_seek_few.Goals as goal

pub returns : goal.returns
returns c = record { law = paced_seek_few }
