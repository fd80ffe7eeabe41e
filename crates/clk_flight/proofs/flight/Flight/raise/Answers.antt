-- The branch in which the raise goes on; what the flight is then stands in the first clause.
use Rattle.std.proofs.Common.{rules, sym, subst}
use Rattle.clk_flight.specs.Flights.{FlightState}
use Rattle.clk_flight.specs.Kept.{IsKept}
use Rattle.clk_flight.specs.Steps.{Raises, LeavesLess}
use Rattle.clk_flight.proofs.StepLaws.{raised-change}
use Rattle.clk_flight.proofs.LeftLaws.{raised_in-less}
use Rattle.clk_flight.proofs.flight.Flight.raise.Goals as goal

pub returns-clause-flight : goal.returns-clause-flight
returns-clause-flight c = search rules

pub returns-clause-change : goal.returns-clause-change
returns-clause-change c = subst (λ (g : FlightState). Raises c.args.x c.args.pll c.args.more c.args.self.now g) (sym (returns-clause-flight c)) (raised-change c.args.self.now c.args.x c.args.pll c.args.more c.requires.next)

pub returns-clause-less : goal.returns-clause-less
returns-clause-less c =
    subst (λ (g : FlightState). LeavesLess c.args.self.now g) (sym (returns-clause-flight c))
    (raised_in-less c.args.self.now c.self.inside.raised.room c.args.x c.args.pll c.args.more (subst (λ (g : FlightState). IsKept g c.self.inside.raised.room) c.self.view_is c.self.invariant) c.requires.next)
