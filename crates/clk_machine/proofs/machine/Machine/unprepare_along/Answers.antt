use Rattle.std.proofs.Common.{◌∙◌, not, sym, ap, Some}
use Rattle.clk_base.specs.declared.call.Sleeping.TheVariants as call
use Rattle.clk_flight.specs.Flights.{FlightState}
use Rattle.clk_model.specs.Begin.{keeps_prepare}
use Rattle.clk_machine.specs.Holding.{prepared_less, puts}
use Rattle.clk_machine.specs.Stands.{nothing}
use Rattle.clk_machine.proofs.Along.{along_own, along_none, along_unfit, by_none}
use Rattle.clk_machine.proofs.Answered.{unprepare_does}
use Rattle.clk_machine.proofs.machine.Machine.unprepare_along.Goals as goal

pub returns-in_default-clause-along : goal.returns-in_default-clause-along
returns-in_default-clause-along g c = along_none c.args.self.now (λ row. not (keeps_prepare row)) (λ u row. puts c.args.handle.number (Some (prepared_less row)) u) c.args.driver c.args.handle.number (call.Unprepare c.args.handle) (λ s. unprepare_does s c.args.driver c.args.handle) (by_none c.own_paid.result c.in_default.is c.own_paid.ensures.none)

pub returns-then-keeps_prepare-clause-along : goal.returns-then-keeps_prepare-clause-along
returns-then-keeps_prepare-clause-along g c = along_unfit c.args.self.now (λ row. not (keeps_prepare row)) (λ u row. puts c.args.handle.number (Some (prepared_less row)) u) c.args.driver c.args.handle.number (call.Unprepare c.args.handle) c.in-Some.row (λ s. unprepare_does s c.args.driver c.args.handle) c.in-Some.ensures.own (ap not (sym c.keeps_prepare.ensures ∙ c.if-keeps_prepare.true))

pub returns-clause-along : goal.returns-clause-along
returns-clause-along g c = along_own c.args.self.now c.drop_prepare.new.self nothing (λ row. not (keeps_prepare row)) (λ u row. puts c.args.handle.number (Some (prepared_less row)) u) c.args.driver c.args.handle.number (call.Unprepare c.args.handle) c.in-Some.row (λ s. unprepare_does s c.args.driver c.args.handle) c.in-Some.ensures.own c.drop_prepare.ensures

pub returns-clause-same : goal.returns-clause-same
returns-clause-same g c = (c.drop_prepare.ensures.remains.desc, c.drop_prepare.ensures.remains.size)

pub returns-clause-quiet : goal.returns-clause-quiet
returns-clause-quiet g c = ap (λ (f : FlightState). f.going) c.drop_prepare.ensures.flight ∙ c.requires.quiet
