use Rattle.std.proofs.Common.{◌∙◌, sym, ap, inl, inr, arith}
use Rattle.clk_flight.specs.Flights.{FlightState}
use Rattle.clk_machine.proofs.Placing.{along_get, along_no_get}
use Rattle.clk_machine.proofs.machine.Machine.get_along.Goals as goal

pub returns-then-credits_left-eq0-clause-along : goal.returns-then-credits_left-eq0-clause-along
returns-then-credits_left-eq0-clause-along g c = λ h.
    along_no_get c.args.self.now c.args.driver c.args.clock h (inr (let left = c.credits_left.ensures in let none = c.if-credits_left-eq0.true in omega arith))

pub returns-then-not-is_rooted-clause-along : goal.returns-then-not-is_rooted-clause-along
returns-then-not-is_rooted-clause-along g c = λ h. along_no_get c.args.self.now c.args.driver c.args.clock h (inl (sym c.is_rooted.ensures.rooted ∙ c.if-not-is_rooted.true))

pub returns-clause-along : goal.returns-clause-along
returns-clause-along g c = λ h. along_get c.args.self.now c.add_placed.new.self c.args.driver c.args.clock h c.add_placed.ensures

pub returns-clause-same : goal.returns-clause-same
returns-clause-same g c = (c.add_placed.ensures.remains.desc, c.add_placed.ensures.remains.size)

pub returns-clause-quiet : goal.returns-clause-quiet
returns-clause-quiet g c = ap (λ (f : FlightState). f.going) c.add_placed.ensures.flight ∙ c.requires.quiet
