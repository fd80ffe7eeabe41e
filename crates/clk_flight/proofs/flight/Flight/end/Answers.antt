-- Something was left, and nothing is left over of a flight that has landed.
use Rattle.std.proofs.Common.{subst}
use Rattle.clk_flight.specs.Flights.{FlightState}
use Rattle.clk_flight.specs.Kept.{IsKept}
use Rattle.clk_flight.proofs.LeftLaws.{landed-less}
use Rattle.clk_flight.proofs.flight.Flight.end.Goals as goal

pub returns-clause-less : goal.returns-clause-less
returns-clause-less c = λ notifiers m first. landed-less c.args.self.now c.self.inside.raised.room notifiers m (subst (λ (g : FlightState). IsKept g c.self.inside.raised.room) c.self.view_is c.self.invariant) first
