-- The flight is what the step makes of it, so it is the change that the definitions have, and less is left over.
use Rattle.std.proofs.Common.{rules, sym, subst}
use Rattle.clk_flight.specs.Flights.{FlightState}
use Rattle.clk_flight.specs.Steps.{Drops, LeavesLessAt, is_fall}
use Rattle.clk_flight.proofs.DropLaws.{fallen-change}
use Rattle.clk_flight.proofs.LeftLaws.{fallen-less}
use Rattle.clk_flight.proofs.flight.Flight.fall.Goals as goal

pub returns-clause-flight : goal.returns-clause-flight
returns-clause-flight c = search rules

pub returns-clause-change : goal.returns-clause-change
returns-clause-change c = subst (λ (g : FlightState). Drops c.args.self.now g) (sym (returns-clause-flight c)) (fallen-change c.args.self.now)

pub returns-clause-less : goal.returns-clause-less
returns-clause-less c =
    subst (λ (g : FlightState). LeavesLessAt is_fall c.args.self.now g) (sym (returns-clause-flight c))
    (fallen-less c.args.self.now)
