use Rattle.std.proofs.Common.{refl, ◌∙◌, Some, None}
use Rattle.clk_base.specs.declared.event.Event.TheVariants.{Begin}
use Rattle.clk_base.specs.declared.event.Errno.TheVariants.{ENOENT}
use Rattle.clk_base.specs.declared.event.Reply.TheVariants.{Refused, Fine}
use Rattle.clk_base.specs.declared.call.Sleeping.TheVariants.{ExclusiveGet}
use Rattle.clk_machine.specs.Holding.{exclusive_more, puts, stays}
use Rattle.clk_machine.proofs.Flying.{quiet_stands}
use Rattle.clk_machine.proofs.CallEvents.{exclusive_get-unknown, exclusive_get-fine}
use Rattle.clk_machine.proofs.Entered.{enters, own_stands}
use Rattle.clk_machine.proofs.machine.Machine.exclusive_get.Goals as goal

pub returns-in_default-clause-enters : goal.returns-in_default-clause-enters
returns-in_default-clause-enters g c =
    enters c.args.self.now c.spend.new.self c.args.driver (Begin (ExclusiveGet c.args.handle)) (Refused ENOENT) stays refl c.requires.quiet c.requires.credit c.spend.ensures
    (λ s stands sound. exclusive_get-unknown s c.args.driver c.args.handle (quiet_stands c.args.self.now s stands c.requires.quiet) (own_stands c.args.self.now s c.args.driver c.args.handle.number None stands (c.own.ensures.row ∙ c.in_default.is)))

pub returns-clause-enters : goal.returns-clause-enters
returns-clause-enters g c =
    enters c.args.self.now c.add_exclusive.new.self c.args.driver (Begin (ExclusiveGet c.args.handle)) Fine (puts c.args.handle.number (Some (exclusive_more c.in-Some.row))) refl c.requires.quiet c.requires.credit c.add_exclusive.ensures
    (λ s stands sound. exclusive_get-fine s c.args.driver c.args.handle c.in-Some.row (quiet_stands c.args.self.now s stands c.requires.quiet)
    (own_stands c.args.self.now s c.args.driver c.args.handle.number (Some c.in-Some.row) stands (c.own.ensures.row ∙ c.in-Some.is)))
