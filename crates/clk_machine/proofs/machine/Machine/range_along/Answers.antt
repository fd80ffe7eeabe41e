use Rattle.std.proofs.Common.{◌∙◌, ap, Some}
use Rattle.clk_base.specs.declared.call.Sleeping.TheVariants as call
use Rattle.clk_flight.specs.Flights.{FlightState}
use Rattle.clk_machine.specs.Holding.{ranged, puts}
use Rattle.clk_machine.specs.Stands.{nothing}
use Rattle.clk_machine.proofs.Along.{along_own, along_none, by_none}
use Rattle.clk_machine.proofs.Answered.{any_row, range_does}
use Rattle.clk_machine.proofs.machine.Machine.range_along.Goals as goal

pub returns-in_default-clause-along : goal.returns-in_default-clause-along
returns-in_default-clause-along g c = along_none c.args.self.now any_row (λ u row. puts c.args.handle.number (Some (ranged row c.args.least c.args.most)) u) c.args.driver c.args.handle.number (call.SetRange c.args.handle c.args.least c.args.most) (λ s. range_does s c.args.driver c.args.handle c.args.least c.args.most) (by_none c.own_paid.result c.in_default.is c.own_paid.ensures.none)

pub returns-clause-along : goal.returns-clause-along
returns-clause-along g c = along_own c.args.self.now c.keep_range.new.self nothing any_row (λ u row. puts c.args.handle.number (Some (ranged row c.args.least c.args.most)) u) c.args.driver c.args.handle.number (call.SetRange c.args.handle c.args.least c.args.most) c.in-Some.row (λ s. range_does s c.args.driver c.args.handle c.args.least c.args.most) c.in-Some.ensures.own c.keep_range.ensures

pub returns-clause-same : goal.returns-clause-same
returns-clause-same g c = (c.keep_range.ensures.remains.desc, c.keep_range.ensures.remains.size)

pub returns-clause-quiet : goal.returns-clause-quiet
returns-clause-quiet g c = ap (λ (f : FlightState). f.going) c.keep_range.ensures.flight ∙ c.requires.quiet
