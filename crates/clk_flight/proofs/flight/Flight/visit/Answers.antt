-- The flight is what the step makes of it, so it is the change that the definitions have.
use Rattle.std.proofs.Common.{◌<◌, rules, sym, subst}
use Rattle.clk_flight.specs.LeftOver.{left_over}
use Rattle.clk_flight.proofs.LeftLaws.{visited-less}
use Rattle.clk_flight.specs.Flights.{FlightState}
use Rattle.clk_flight.specs.Steps.{Visits}
use Rattle.clk_flight.proofs.DropLaws.{visited-change}
use Rattle.clk_flight.proofs.flight.Flight.visit.Goals as goal

pub returns-clause-flight : goal.returns-clause-flight
returns-clause-flight c = search rules

pub returns-clause-change : goal.returns-clause-change
returns-clause-change c =
    subst (λ (g : FlightState). Visits c.args.clock c.args.told c.args.old c.args.new c.args.self.now g) (sym (returns-clause-flight c))
    (visited-change c.args.self.now c.args.clock c.args.told c.args.old c.args.new c.requires.next)

pub returns-clause-less : goal.returns-clause-less
returns-clause-less c = λ notifiers few.
    subst (λ (g : FlightState). left_over notifiers g < left_over notifiers c.args.self.now) (sym (returns-clause-flight c))
    (visited-less c.args.self.now c.args.clock c.args.told c.args.old c.args.new notifiers c.requires.next few)
