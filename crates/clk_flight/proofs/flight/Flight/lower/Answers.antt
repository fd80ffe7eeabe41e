-- The flight is what the step makes of it, so it is the change that the definitions have, and less is left over.
use Rattle.std.proofs.Common.{rules, sym, subst}
use Rattle.clk_flight.specs.Flights.{FlightState}
use Rattle.clk_flight.specs.Kept.{IsKept}
use Rattle.clk_flight.specs.Steps.{LowersOne, LeavesLess}
use Rattle.clk_flight.proofs.StepLaws.{lowered-change}
use Rattle.clk_flight.proofs.LeftLaws.{lowered_once-less}
use Rattle.clk_flight.proofs.flight.Flight.lower.Goals as goal

pub returns-clause-flight : goal.returns-clause-flight
returns-clause-flight c = search rules

pub returns-clause-change : goal.returns-clause-change
returns-clause-change c = subst (λ (g : FlightState). LowersOne c.args.x c.args.more c.args.self.now g) (sym (returns-clause-flight c)) (lowered-change c.args.self.now c.args.x c.args.more c.requires.next)

pub returns-clause-less : goal.returns-clause-less
returns-clause-less c =
    subst (λ (g : FlightState). LeavesLess c.args.self.now g) (sym (returns-clause-flight c))
    (lowered_once-less c.args.self.now c.self.inside.raised.room c.args.x c.args.more (subst (λ (g : FlightState). IsKept g c.self.inside.raised.room) c.self.view_is c.self.invariant) c.requires.next)
