-- The flight is what the step makes of it, so it is the change that the definitions have, and less is left over.
use Rattle.std.proofs.Common.{rules, sym, subst}
use Rattle.clk_flight.specs.Flights.{FlightState}
use Rattle.clk_flight.specs.Kept.{IsKept}
use Rattle.clk_flight.specs.Steps.{FindsNone, LeavesLess}
use Rattle.clk_flight.proofs.ChangeLaws.{found_none-change}
use Rattle.clk_flight.proofs.LeftLaws.{found_none-less}
use Rattle.clk_flight.proofs.flight.Flight.find_none.Goals as goal

pub returns-clause-flight : goal.returns-clause-flight
returns-clause-flight c = search rules

pub returns-clause-change : goal.returns-clause-change
returns-clause-change c = subst (λ (g : FlightState). FindsNone c.args.self.now g) (sym (returns-clause-flight c)) (found_none-change c.args.self.now)

pub returns-clause-less : goal.returns-clause-less
returns-clause-less c =
    subst (λ (g : FlightState). LeavesLess c.args.self.now g) (sym (returns-clause-flight c))
    (found_none-less c.args.self.now c.self.inside.raised.room (subst (λ (g : FlightState). IsKept g c.self.inside.raised.room) c.self.view_is c.self.invariant) c.requires.next)
