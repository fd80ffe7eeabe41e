-- The flight is what the step makes of it, so it is the change that the definitions have, and less is left over.
use Rattle.std.proofs.Common.{rules, sym, subst}
use Rattle.clk_flight.specs.Flights.{FlightState}
use Rattle.clk_flight.specs.Kept.{IsKept}
use Rattle.clk_flight.specs.Steps.{GoesOn, LeavesLessAt, is_taken}
use Rattle.clk_flight.proofs.ChangeLaws.{gone_on-change}
use Rattle.clk_flight.proofs.LeftLaws.{gone_on-less}
use Rattle.clk_flight.proofs.flight.Flight.go_on.Goals as goal

pub returns-then-is_empty-clause-flight : goal.returns-then-is_empty-clause-flight
returns-then-is_empty-clause-flight c = search rules

pub returns-then-is_empty-clause-change : goal.returns-then-is_empty-clause-change
returns-then-is_empty-clause-change c = subst (λ (g : FlightState). GoesOn c.args.self.now g) (sym (returns-then-is_empty-clause-flight c)) (gone_on-change c.args.self.now)

pub returns-then-is_empty-clause-less : goal.returns-then-is_empty-clause-less
returns-then-is_empty-clause-less c =
    subst (λ (g : FlightState). LeavesLessAt is_taken c.args.self.now g) (sym (returns-then-is_empty-clause-flight c))
    (gone_on-less c.args.self.now c.self.inside.raised.room (subst (λ (g : FlightState). IsKept g c.self.inside.raised.room) c.self.view_is c.self.invariant))

pub returns-else-is_empty-clause-flight : goal.returns-else-is_empty-clause-flight
returns-else-is_empty-clause-flight c = search rules

pub returns-else-is_empty-clause-change : goal.returns-else-is_empty-clause-change
returns-else-is_empty-clause-change c = subst (λ (g : FlightState). GoesOn c.args.self.now g) (sym (returns-else-is_empty-clause-flight c)) (gone_on-change c.args.self.now)

pub returns-else-is_empty-clause-less : goal.returns-else-is_empty-clause-less
returns-else-is_empty-clause-less c =
    subst (λ (g : FlightState). LeavesLessAt is_taken c.args.self.now g) (sym (returns-else-is_empty-clause-flight c))
    (gone_on-less c.args.self.now c.self.inside.raised.room (subst (λ (g : FlightState). IsKept g c.self.inside.raised.room) c.self.view_is c.self.invariant))
