-- What is raised is less, and the room is the same; so what is left over is no more.
use Rattle.std.proofs.Common.{◌≤◌, rules, sym, subst}
use Rattle.clk_flight.specs.Flights.{FlightState}
use Rattle.clk_flight.specs.LeftOver.{left_over}
use Rattle.clk_flight.proofs.LeftLaws.{let_go-less}
use Rattle.clk_flight.specs.Inside.{flight_of}
use Rattle.clk_flight.proofs.KeptLaws.{let_go-keeps}
use Rattle.clk_flight.proofs.flight.Flight.let_go.Goals as goal

pub invariant_of-self : goal.invariant_of-self
invariant_of-self c =
    let_go-keeps (flight_of c.self.inside) c.args.pll.0 c.let_go.new.self.plls c.fallen-self-inside.result c.self.inside.raised.room c.let_go.new.self.room
    c.let_go.ensures.room c.let_go.ensures.plls (c.fallen-self-inside.ensures c.let_go.new.self.plls c.len.ensures) c.self.invariant

pub returns-clause-flight : goal.returns-clause-flight
returns-clause-flight c = search rules

pub returns-clause-less : goal.returns-clause-less
returns-clause-less c = λ notifiers.
    subst (λ (g : FlightState). left_over notifiers g ≤ left_over notifiers c.args.self.now) (sym (returns-clause-flight c)) (let_go-less c.args.self.now c.args.pll notifiers)
