use Rattle.std.proofs.Common.{ℕ, ◌==◌, ◌∙◌, not, ap, Some}
use Rattle.clk_base.specs.declared.call.Sleeping.TheVariants as call
use Rattle.clk_flight.specs.Flights.{FlightState}
use Rattle.clk_machine.specs.Holding.{exclusive_less, puts}
use Rattle.clk_machine.specs.Stands.{nothing}
use Rattle.clk_machine.proofs.Along.{along_own, along_none, along_unfit, by_none}
use Rattle.clk_machine.proofs.Answered.{exclusive_put_does}
use Rattle.clk_machine.proofs.machine.Machine.exclusive_put_along.Goals as goal

pub returns-in_default-clause-along : goal.returns-in_default-clause-along
returns-in_default-clause-along g c = along_none c.args.self.now (λ row. not (row.exclusives == 0)) (λ u row. puts c.args.handle.number (Some (exclusive_less row)) u) c.args.driver c.args.handle.number (call.ExclusivePut c.args.handle) (λ s. exclusive_put_does s c.args.driver c.args.handle) (by_none c.own_paid.result c.in_default.is c.own_paid.ensures.none)

pub returns-then-row-eq0-clause-along : goal.returns-then-row-eq0-clause-along
returns-then-row-eq0-clause-along g c = along_unfit c.args.self.now (λ row. not (row.exclusives == 0)) (λ u row. puts c.args.handle.number (Some (exclusive_less row)) u) c.args.driver c.args.handle.number (call.ExclusivePut c.args.handle) c.in-Some.row (λ s. exclusive_put_does s c.args.driver c.args.handle) c.in-Some.ensures.own (ap (λ (n : ℕ). not (n == 0)) c.if-row-eq0.true)

pub returns-clause-along : goal.returns-clause-along
returns-clause-along g c = along_own c.args.self.now c.drop_exclusive.new.self nothing (λ row. not (row.exclusives == 0)) (λ u row. puts c.args.handle.number (Some (exclusive_less row)) u) c.args.driver c.args.handle.number (call.ExclusivePut c.args.handle) c.in-Some.row (λ s. exclusive_put_does s c.args.driver c.args.handle) c.in-Some.ensures.own c.drop_exclusive.ensures

pub returns-clause-same : goal.returns-clause-same
returns-clause-same g c = (c.drop_exclusive.ensures.remains.desc, c.drop_exclusive.ensures.remains.size)

pub returns-clause-quiet : goal.returns-clause-quiet
returns-clause-quiet g c = ap (λ (f : FlightState). f.going) c.drop_exclusive.ensures.flight ∙ c.requires.quiet
