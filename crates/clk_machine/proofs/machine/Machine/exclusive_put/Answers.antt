use Rattle.std.proofs.Common.{refl, ◌∙◌, arith, Some, None}
use Rattle.clk_base.specs.declared.event.Event.TheVariants.{Begin}
use Rattle.clk_base.specs.declared.event.Errno.TheVariants.{ENOENT}
use Rattle.clk_base.specs.declared.event.Reply.TheVariants.{Refused, Fine, Warn}
use Rattle.clk_base.specs.declared.call.Sleeping.TheVariants.{ExclusivePut}
use Rattle.clk_machine.specs.Holding.{exclusive_less, puts, stays}
use Rattle.clk_machine.proofs.Flying.{quiet_stands}
use Rattle.clk_machine.proofs.CallEvents.{exclusive_put-unknown, exclusive_put-warned, exclusive_put-fine}
use Rattle.clk_machine.proofs.Entered.{enters, own_stands}
use Rattle.clk_machine.proofs.machine.Machine.exclusive_put.Goals as goal

pub returns-in_default-clause-enters : goal.returns-in_default-clause-enters
returns-in_default-clause-enters g c =
    enters c.args.self.now c.spend.new.self c.args.driver (Begin (ExclusivePut c.args.handle)) (Refused ENOENT) stays refl c.requires.quiet c.requires.credit c.spend.ensures
    (λ s stands sound. exclusive_put-unknown s c.args.driver c.args.handle (quiet_stands c.args.self.now s stands c.requires.quiet) (own_stands c.args.self.now s c.args.driver c.args.handle.number None stands (c.own.ensures.row ∙ c.in_default.is)))

pub returns-then-row-eq0-clause-enters : goal.returns-then-row-eq0-clause-enters
returns-then-row-eq0-clause-enters g c =
    enters c.args.self.now c.spend-then-row-eq0.new.self c.args.driver (Begin (ExclusivePut c.args.handle)) Warn stays refl c.requires.quiet c.requires.credit c.spend-then-row-eq0.ensures
    (λ s stands sound. exclusive_put-warned s c.args.driver c.args.handle c.in-Some.row (quiet_stands c.args.self.now s stands c.requires.quiet)
    (own_stands c.args.self.now s c.args.driver c.args.handle.number (Some c.in-Some.row) stands (c.own.ensures.row ∙ c.in-Some.is)) c.if-row-eq0.true)

pub returns-clause-enters : goal.returns-clause-enters
returns-clause-enters g c =
    enters c.args.self.now c.drop_exclusive.new.self c.args.driver (Begin (ExclusivePut c.args.handle)) Fine (puts c.args.handle.number (Some (exclusive_less c.in-Some.row))) refl c.requires.quiet c.requires.credit c.drop_exclusive.ensures
    (λ s stands sound. exclusive_put-fine s c.args.driver c.args.handle c.in-Some.row (quiet_stands c.args.self.now s stands c.requires.quiet)
    (own_stands c.args.self.now s c.args.driver c.args.handle.number (Some c.in-Some.row) stands (c.own.ensures.row ∙ c.in-Some.is)) (omega arith))
