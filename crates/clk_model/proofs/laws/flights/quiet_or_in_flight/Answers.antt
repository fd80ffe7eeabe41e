use Rattle.clk_model.proofs.InFlightLaws as laws
use Rattle.clk_model.proofs.laws.flights.quiet_or_in_flight.Goals as goal

pub returns : goal.returns
returns c = record { known = laws.quiet_or_in_flight }
