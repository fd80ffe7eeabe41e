-- The falls need no room, and the script is no longer than it was; the flight is what the poll makes of it, so it is the change that
-- the definitions have.
use Rattle.std.proofs.Common.{arith, rules, sym, subst}
use Rattle.std.specs.Option.{option_map}
use Rattle.clk_flight.specs.Inside.{flight_of}
use Rattle.clk_flight.specs.Flights.{FlightState}
use Rattle.clk_flight.specs.Kept.{IsKept}
use Rattle.clk_flight.specs.Steps.{Polls, LeavesLess}
use Rattle.clk_flight.proofs.KeptLaws.{timeout-keeps}
use Rattle.clk_flight.proofs.PollLaws.{polled-change}
use Rattle.clk_flight.proofs.LeftLaws.{polled-less}
use Rattle.clk_flight.proofs.flight.Flight.poll.Goals as goal

pub invariant_of-self : goal.invariant_of-self
invariant_of-self c =
    timeout-keeps (flight_of c.self.inside) c.cut-self-inside.new.self.whole c.cut-self-inside.new.self.left c.falls-self-inside.result (option_map (λ x. x.0) c.cut-self-inside.result) c.self.inside.raised.room
    (omega (arith, c.self.ranges)) (c.falls-self-inside.ensures.front c.self.inside.raised.plls c.len.ensures) c.cut-self-inside.ensures.left c.self.invariant

pub returns-then-is_last_no-clause-flight : goal.returns-then-is_last_no-clause-flight
returns-then-is_last_no-clause-flight c = search rules

pub returns-then-is_last_no-clause-change : goal.returns-then-is_last_no-clause-change
returns-then-is_last_no-clause-change c =
    subst (λ (g : FlightState). Polls c.args.yes c.args.self.now g) (sym (returns-then-is_last_no-clause-flight c)) (polled-change c.args.self.now c.args.yes)

pub returns-clause-flight : goal.returns-clause-flight
returns-clause-flight c = search rules

pub returns-clause-change : goal.returns-clause-change
returns-clause-change c = subst (λ (g : FlightState). Polls c.args.yes c.args.self.now g) (sym (returns-clause-flight c)) (polled-change c.args.self.now c.args.yes)

pub returns-then-is_last_no-clause-less : goal.returns-then-is_last_no-clause-less
returns-then-is_last_no-clause-less c = λ y own.
    subst (λ (g : FlightState). LeavesLess c.args.self.now g) (sym (returns-then-is_last_no-clause-flight c))
    (polled-less c.args.self.now c.self.inside.raised.room c.args.yes y (subst (λ (g : FlightState). IsKept g c.self.inside.raised.room) c.self.view_is c.self.invariant) own)

pub returns-clause-less : goal.returns-clause-less
returns-clause-less c = λ y own.
    subst (λ (g : FlightState). LeavesLess c.args.self.now g) (sym (returns-clause-flight c))
    (polled-less c.args.self.now c.self.inside.raised.room c.args.yes y (subst (λ (g : FlightState). IsKept g c.self.inside.raised.room) c.self.view_is c.self.invariant) own)
