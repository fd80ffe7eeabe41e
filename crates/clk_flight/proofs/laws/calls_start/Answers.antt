-- The law.
use Rattle.clk_flight.proofs.StartLaws.{calls_start}
use Rattle.clk_flight.proofs.laws.calls_start.Goals as goal

pub returns : goal.returns
returns c = record { law = calls_start }
