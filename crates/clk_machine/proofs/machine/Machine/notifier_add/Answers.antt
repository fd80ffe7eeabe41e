use Rattle.std.proofs.Common.{◌<◌, ◌≤◌, refl, subst, sym, ◌∙◌, Some, None, ℕ, ℤ, w32}
use Rattle.std.proofs.lemmas.Int.{to_z-of_z}
use Rattle.notifiers.specs.declared.fault.ChainFault.{ChainFault}
use Rattle.notifiers.specs.declared.fault.ChainFault.TheVariants.{Exists, Full}
use Rattle.notifiers.specs.Chains.{chain_of, WhyNot}
use Rattle.clk_base.specs.declared.event.Event.TheVariants.{Begin}
use Rattle.clk_base.specs.declared.event.Errno.TheVariants.{ENOENT, EEXIST, ENOSPC}
use Rattle.clk_base.specs.declared.event.Reply.TheVariants.{Refused, Fine}
use Rattle.clk_base.specs.declared.call.Sleeping.TheVariants.{NotifierAdd}
use Rattle.clk_model.specs.Begin.{most_notifiers}
use Rattle.clk_machine.specs.Holding.{notified, stays}
use Rattle.clk_machine.specs.Parts.{Parts}
use Rattle.clk_machine.specs.Stands.{Becomes, nothing}
use Rattle.clk_machine.proofs.Flying.{quiet_stands}
use Rattle.clk_machine.proofs.CallEvents.{notifier_add-unknown, notifier_add-known, notifier_add-full, notifier_add-fine}
use Rattle.clk_machine.proofs.Entered.{enters, own_stands}
use Rattle.clk_machine.proofs.Notifying.{has_stands, many_stand}
use Rattle.clk_machine.proofs.Writing.{row_place}
use Rattle.clk_machine.proofs.machine.Machine.notifier_add.Goals as goal

pub add_notifier-requires-clause-place : goal.add_notifier-requires-clause-place
add_notifier-requires-clause-place g c = row_place c.args.self.now c.args.handle.number c.in-Some.row c.own.ensures.whole c.in-Some.ensures.live

pub returns-in_default-clause-ok : goal.returns-in_default-clause-ok
returns-in_default-clause-ok g c =
    enters c.args.self.now c.spend.new.self c.args.driver (Begin (NotifierAdd c.args.handle c.args.id c.args.priority c.args.policy)) (Refused ENOENT) stays refl c.requires.quiet c.requires.credit c.spend.ensures
    (λ s stands sound. notifier_add-unknown s c.args.driver c.args.handle c.args.id c.args.priority c.args.policy (quiet_stands c.args.self.now s stands c.requires.quiet)
    (own_stands c.args.self.now s c.args.driver c.args.handle.number None stands (c.own.ensures.row ∙ c.in_default.is)))

pub returns-in-Ok-clause-ok : goal.returns-in-Ok-clause-ok
returns-in-Ok-clause-ok g c =
    let row = c.in-Some.row in
    enters c.args.self.now c.add_notifier.new.self c.args.driver (Begin (NotifierAdd c.args.handle c.args.id c.args.priority c.args.policy)) Fine
    (notified row.clock.0 c.args.id c.args.priority c.args.policy) refl c.requires.quiet c.requires.credit
    (subst (λ (z : ℤ). Becomes c.args.self.now nothing (notified row.clock.0 c.args.id z c.args.policy) c.add_notifier.new.self)
    (to_z-of_z w32 c.args.priority c.ranges.priority) c.in-Ok.ensures.ok)
    (λ s stands sound.
    let can = c.in-Ok.ensures.can in
    notifier_add-fine s c.args.driver c.args.handle c.args.id c.args.priority c.args.policy row (quiet_stands c.args.self.now s stands c.requires.quiet)
    (own_stands c.args.self.now s c.args.driver c.args.handle.number (Some row) stands (c.own.ensures.row ∙ c.in-Some.is))
    (has_stands c.args.self.now s row.clock.0 c.args.id stands ∙ can.0)
    (subst (λ (n : ℕ). n < most_notifiers) (sym (many_stand c.args.self.now s row.clock.0 stands)) can.1))

pub returns-in-Err-Exists-clause-ok : goal.returns-in-Err-Exists-clause-ok
returns-in-Err-Exists-clause-ok g c =
    let row = c.in-Some.row in
    let why : WhyNot c.args.id (chain_of c.args.self.now.chains row.clock.0) Exists =
    subst (λ (f : ChainFault). WhyNot c.args.id (chain_of c.args.self.now.chains row.clock.0) f) c.in-Err-Exists.field-0-is c.in-Err-Exists.ensures.why in
    enters c.args.self.now c.spend-in-Err-Exists.new.self c.args.driver (Begin (NotifierAdd c.args.handle c.args.id c.args.priority c.args.policy)) (Refused EEXIST) stays refl c.requires.quiet c.requires.credit
    (subst (λ (m : Parts). Becomes m nothing stays c.spend-in-Err-Exists.new.self) c.in-Err-Exists.ensures.err c.spend-in-Err-Exists.ensures)
    (λ s stands sound. notifier_add-known s c.args.driver c.args.handle c.args.id c.args.priority c.args.policy row (quiet_stands c.args.self.now s stands c.requires.quiet)
    (own_stands c.args.self.now s c.args.driver c.args.handle.number (Some row) stands (c.own.ensures.row ∙ c.in-Some.is))
    (has_stands c.args.self.now s row.clock.0 c.args.id stands ∙ why))

pub returns-in-Err-Full-clause-ok : goal.returns-in-Err-Full-clause-ok
returns-in-Err-Full-clause-ok g c =
    let row = c.in-Some.row in
    let why : WhyNot c.args.id (chain_of c.args.self.now.chains row.clock.0) Full =
    subst (λ (f : ChainFault). WhyNot c.args.id (chain_of c.args.self.now.chains row.clock.0) f) c.in-Err-Full.field-0-is c.in-Err-Full.ensures.why in
    enters c.args.self.now c.spend-in-Err-Full.new.self c.args.driver (Begin (NotifierAdd c.args.handle c.args.id c.args.priority c.args.policy)) (Refused ENOSPC) stays refl c.requires.quiet c.requires.credit
    (subst (λ (m : Parts). Becomes m nothing stays c.spend-in-Err-Full.new.self) c.in-Err-Full.ensures.err c.spend-in-Err-Full.ensures)
    (λ s stands sound.
    notifier_add-full s c.args.driver c.args.handle c.args.id c.args.priority c.args.policy row (quiet_stands c.args.self.now s stands c.requires.quiet)
    (own_stands c.args.self.now s c.args.driver c.args.handle.number (Some row) stands (c.own.ensures.row ∙ c.in-Some.is))
    (has_stands c.args.self.now s row.clock.0 c.args.id stands ∙ why.0)
    (subst (λ (n : ℕ). most_notifiers ≤ n) (sym (many_stand c.args.self.now s row.clock.0 stands)) why.1))
