use Rattle.clk_model.proofs.FlightLaws as laws
use Rattle.clk_model.proofs.laws.flights.script_left.Goals as goal

pub returns : goal.returns
returns c = record { left = laws.script_left }
