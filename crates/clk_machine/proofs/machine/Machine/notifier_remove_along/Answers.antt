use Rattle.std.proofs.Common.{◌∙◌, ap}
use Rattle.clk_base.specs.declared.call.Sleeping.TheVariants as call
use Rattle.clk_flight.specs.Flights.{FlightState}
use Rattle.clk_machine.specs.Holding.{unnotified}
use Rattle.clk_machine.specs.Stands.{nothing}
use Rattle.clk_machine.proofs.Along.{along_own, along_none, by_none}
use Rattle.clk_machine.proofs.Answered.{any_row, notifier_remove_does}
use Rattle.clk_machine.proofs.machine.Machine.notifier_remove_along.Goals as goal

pub returns-in_default-clause-along : goal.returns-in_default-clause-along
returns-in_default-clause-along g c = along_none c.args.self.now any_row (λ u row. unnotified row.clock.0 c.args.id u) c.args.driver c.args.handle.number (call.NotifierRemove c.args.handle c.args.id) (λ s. notifier_remove_does s c.args.driver c.args.handle c.args.id) (by_none c.own_paid.result c.in_default.is c.own_paid.ensures.none)

pub returns-clause-along : goal.returns-clause-along
returns-clause-along g c = along_own c.args.self.now c.remove_notifier-had.new.self nothing any_row (λ u row. unnotified row.clock.0 c.args.id u) c.args.driver c.args.handle.number (call.NotifierRemove c.args.handle c.args.id) c.in-Some.row (λ s. notifier_remove_does s c.args.driver c.args.handle c.args.id) c.in-Some.ensures.own c.remove_notifier-had.ensures.removed

pub returns-clause-same : goal.returns-clause-same
returns-clause-same g c = (c.remove_notifier-had.ensures.removed.remains.desc, c.remove_notifier-had.ensures.removed.remains.size)

pub returns-clause-quiet : goal.returns-clause-quiet
returns-clause-quiet g c = ap (λ (f : FlightState). f.going) c.remove_notifier-had.ensures.removed.flight ∙ c.requires.quiet
