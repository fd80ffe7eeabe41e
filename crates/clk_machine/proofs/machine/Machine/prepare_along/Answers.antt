use Rattle.std.proofs.Common.{◌∙◌, ap, Some}
use Rattle.clk_base.specs.declared.call.Sleeping.TheVariants as call
use Rattle.clk_flight.specs.Flights.{FlightState}
use Rattle.clk_machine.specs.Holding.{prepared_more, puts}
use Rattle.clk_machine.specs.Stands.{nothing}
use Rattle.clk_machine.proofs.Along.{along_own, along_none, by_none}
use Rattle.clk_machine.proofs.Answered.{any_row, prepare_does}
use Rattle.clk_machine.proofs.machine.Machine.prepare_along.Goals as goal

pub returns-in_default-clause-along : goal.returns-in_default-clause-along
returns-in_default-clause-along g c = along_none c.args.self.now any_row (λ u row. puts c.args.handle.number (Some (prepared_more row)) u) c.args.driver c.args.handle.number (call.Prepare c.args.handle) (λ s. prepare_does s c.args.driver c.args.handle) (by_none c.own_paid.result c.in_default.is c.own_paid.ensures.none)

pub returns-clause-along : goal.returns-clause-along
returns-clause-along g c = along_own c.args.self.now c.add_prepare.new.self nothing any_row (λ u row. puts c.args.handle.number (Some (prepared_more row)) u) c.args.driver c.args.handle.number (call.Prepare c.args.handle) c.in-Some.row (λ s. prepare_does s c.args.driver c.args.handle) c.in-Some.ensures.own c.add_prepare.ensures

pub returns-clause-same : goal.returns-clause-same
returns-clause-same g c = (c.add_prepare.ensures.remains.desc, c.add_prepare.ensures.remains.size)

pub returns-clause-quiet : goal.returns-clause-quiet
returns-clause-quiet g c = ap (λ (f : FlightState). f.going) c.add_prepare.ensures.flight ∙ c.requires.quiet
