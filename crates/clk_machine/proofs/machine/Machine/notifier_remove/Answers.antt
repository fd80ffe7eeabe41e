use Rattle.std.proofs.Common.{refl, ◌∙◌, sym, ap, Some, None}
use Rattle.clk_base.specs.declared.event.Event.TheVariants.{Begin}
use Rattle.clk_base.specs.declared.event.Errno.TheVariants.{ENOENT}
use Rattle.clk_base.specs.declared.event.Reply.TheVariants.{Refused, Fine}
use Rattle.clk_base.specs.declared.event.Turn.TheVariants.{Done}
use Rattle.clk_base.specs.declared.call.Sleeping.TheVariants.{NotifierRemove}
use Rattle.clk_model.specs.State.{State}
use Rattle.clk_model.specs.Machine.{paid}
use Rattle.clk_machine.specs.Holding.{unnotified, stays}
use Rattle.clk_machine.proofs.Flying.{quiet_stands}
use Rattle.clk_machine.proofs.CallEvents.{notifier_remove-unknown, notifier_remove-lacking, notifier_remove-fine}
use Rattle.clk_machine.proofs.Entered.{enters, own_stands}
use Rattle.clk_machine.proofs.Notifying.{has_stands, unnotified_same}
use Rattle.clk_machine.proofs.machine.Machine.notifier_remove.Goals as goal

pub returns-in_default-clause-enters : goal.returns-in_default-clause-enters
returns-in_default-clause-enters g c =
    enters c.args.self.now c.spend.new.self c.args.driver (Begin (NotifierRemove c.args.handle c.args.id)) (Refused ENOENT) stays refl c.requires.quiet c.requires.credit c.spend.ensures
    (λ s stands sound. notifier_remove-unknown s c.args.driver c.args.handle c.args.id (quiet_stands c.args.self.now s stands c.requires.quiet)
    (own_stands c.args.self.now s c.args.driver c.args.handle.number None stands (c.own.ensures.row ∙ c.in_default.is)))

pub returns-then-had-clause-enters : goal.returns-then-had-clause-enters
returns-then-had-clause-enters g c =
    let row = c.in-Some.row in
    enters c.args.self.now c.remove_notifier-had.new.self c.args.driver (Begin (NotifierRemove c.args.handle c.args.id)) Fine (unnotified row.clock.0 c.args.id) refl c.requires.quiet c.requires.credit c.remove_notifier-had.ensures.removed
    (λ s stands sound. notifier_remove-fine s c.args.driver c.args.handle c.args.id row (quiet_stands c.args.self.now s stands c.requires.quiet)
    (own_stands c.args.self.now s c.args.driver c.args.handle.number (Some row) stands (c.own.ensures.row ∙ c.in-Some.is))
    (has_stands c.args.self.now s row.clock.0 c.args.id stands ∙ sym c.remove_notifier-had.ensures.had ∙ c.if-had.true))

pub returns-else-had-clause-enters : goal.returns-else-had-clause-enters
returns-else-had-clause-enters g c =
    let row = c.in-Some.row in
    enters c.args.self.now c.remove_notifier-had.new.self c.args.driver (Begin (NotifierRemove c.args.handle c.args.id)) (Refused ENOENT) (unnotified row.clock.0 c.args.id) refl c.requires.quiet c.requires.credit c.remove_notifier-had.ensures.removed
    (λ s stands sound.
    let lacks = has_stands c.args.self.now s row.clock.0 c.args.id stands ∙ sym c.remove_notifier-had.ensures.had ∙ c.if-had.false in
    notifier_remove-lacking s c.args.driver c.args.handle c.args.id row (quiet_stands c.args.self.now s stands c.requires.quiet)
    (own_stands c.args.self.now s c.args.driver c.args.handle.number (Some row) stands (c.own.ensures.row ∙ c.in-Some.is)) lacks
    ∙ ap (λ (t : State). paid s (t, Done (Refused ENOENT))) (sym (unnotified_same s row.clock.0 c.args.id lacks)))
