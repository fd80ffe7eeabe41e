use Rattle.std.proofs.Common.{refl, ◌∙◌, sym, Some, None}
use Rattle.clk_base.specs.declared.event.Event.TheVariants.{Begin}
use Rattle.clk_base.specs.declared.event.Errno.TheVariants.{ENOENT, EBUSY}
use Rattle.clk_base.specs.declared.event.Reply.TheVariants.{Refused, Fine}
use Rattle.clk_base.specs.declared.call.Sleeping.TheVariants.{Put}
use Rattle.clk_model.proofs.EventLaws.{put-unknown, put-busy, put-fine}
use Rattle.clk_machine.specs.Holding.{puts, stays}
use Rattle.clk_machine.proofs.Flying.{quiet_stands}
use Rattle.clk_machine.proofs.Entered.{enters, own_stands}
use Rattle.clk_machine.proofs.machine.Machine.put.Goals as goal

pub returns-in_default-clause-enters : goal.returns-in_default-clause-enters
returns-in_default-clause-enters g c =
    enters c.args.self.now c.spend.new.self c.args.driver (Begin (Put c.args.handle)) (Refused ENOENT) stays refl c.requires.quiet c.requires.credit c.spend.ensures
    (λ s stands sound. put-unknown s c.args.driver c.args.handle (quiet_stands c.args.self.now s stands c.requires.quiet) (own_stands c.args.self.now s c.args.driver c.args.handle.number None stands (c.own.ensures.row ∙ c.in_default.is)))

pub returns-then-holds_something-clause-enters : goal.returns-then-holds_something-clause-enters
returns-then-holds_something-clause-enters g c =
    enters c.args.self.now c.spend-then-holds_something.new.self c.args.driver (Begin (Put c.args.handle)) (Refused EBUSY) stays refl c.requires.quiet c.requires.credit c.spend-then-holds_something.ensures
    (λ s stands sound. put-busy s c.args.driver c.args.handle c.in-Some.row (quiet_stands c.args.self.now s stands c.requires.quiet)
    (own_stands c.args.self.now s c.args.driver c.args.handle.number (Some c.in-Some.row) stands (c.own.ensures.row ∙ c.in-Some.is)) (sym c.holds_something.ensures ∙ c.if-holds_something.true))

pub returns-clause-enters : goal.returns-clause-enters
returns-clause-enters g c =
    enters c.args.self.now c.remove_handle.new.self c.args.driver (Begin (Put c.args.handle)) Fine (puts c.args.handle.number None) refl c.requires.quiet c.requires.credit c.remove_handle.ensures
    (λ s stands sound. put-fine s c.args.driver c.args.handle c.in-Some.row (quiet_stands c.args.self.now s stands c.requires.quiet)
    (own_stands c.args.self.now s c.args.driver c.args.handle.number (Some c.in-Some.row) stands (c.own.ensures.row ∙ c.in-Some.is)) (sym c.holds_something.ensures ∙ c.if-holds_something.false))
