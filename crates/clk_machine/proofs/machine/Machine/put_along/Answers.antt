use Rattle.std.proofs.Common.{◌∙◌, not, sym, ap, None}
use Rattle.clk_base.specs.declared.call.Sleeping.TheVariants as call
use Rattle.clk_flight.specs.Flights.{FlightState}
use Rattle.clk_model.specs.Begin.{holds_something}
use Rattle.clk_machine.specs.Holding.{puts}
use Rattle.clk_machine.specs.Stands.{nothing}
use Rattle.clk_machine.proofs.Along.{along_own, along_none, along_unfit, by_none}
use Rattle.clk_machine.proofs.Answered.{put_does}
use Rattle.clk_machine.proofs.machine.Machine.put_along.Goals as goal

pub returns-in_default-clause-along : goal.returns-in_default-clause-along
returns-in_default-clause-along g c = along_none c.args.self.now (λ row. not (holds_something row)) (λ u row. puts c.args.handle.number None u) c.args.driver c.args.handle.number (call.Put c.args.handle) (λ s. put_does s c.args.driver c.args.handle) (by_none c.own_paid.result c.in_default.is c.own_paid.ensures.none)

pub returns-then-holds_something-clause-along : goal.returns-then-holds_something-clause-along
returns-then-holds_something-clause-along g c = along_unfit c.args.self.now (λ row. not (holds_something row)) (λ u row. puts c.args.handle.number None u) c.args.driver c.args.handle.number (call.Put c.args.handle) c.in-Some.row (λ s. put_does s c.args.driver c.args.handle) c.in-Some.ensures.own (ap not (sym c.holds_something.ensures ∙ c.if-holds_something.true))

pub returns-clause-along : goal.returns-clause-along
returns-clause-along g c = along_own c.args.self.now c.remove_handle.new.self nothing (λ row. not (holds_something row)) (λ u row. puts c.args.handle.number None u) c.args.driver c.args.handle.number (call.Put c.args.handle) c.in-Some.row (λ s. put_does s c.args.driver c.args.handle) c.in-Some.ensures.own c.remove_handle.ensures

pub returns-clause-same : goal.returns-clause-same
returns-clause-same g c = (c.remove_handle.ensures.remains.desc, c.remove_handle.ensures.remains.size)

pub returns-clause-quiet : goal.returns-clause-quiet
returns-clause-quiet g c = ap (λ (f : FlightState). f.going) c.remove_handle.ensures.flight ∙ c.requires.quiet
