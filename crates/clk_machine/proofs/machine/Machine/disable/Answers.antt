use Rattle.std.proofs.Common.{refl, ◌∙◌, arith, Some, None}
use Rattle.clk_base.specs.declared.event.Event.TheVariants.{Disable}
use Rattle.clk_base.specs.declared.event.Errno.TheVariants.{ENOENT}
use Rattle.clk_base.specs.declared.event.Reply.TheVariants.{Refused, Fine, Warn}
use Rattle.clk_model.proofs.EventLaws.{disable-unknown, disable-warned, disable-fine}
use Rattle.clk_machine.specs.Holding.{enabled_less, puts, stays}
use Rattle.clk_machine.proofs.Entered.{enters, own_stands}
use Rattle.clk_machine.proofs.machine.Machine.disable.Goals as goal

pub returns-in_default-clause-enters : goal.returns-in_default-clause-enters
returns-in_default-clause-enters g c =
    enters c.args.self.now c.spend.new.self c.args.driver (Disable c.args.handle.number) (Refused ENOENT) stays refl refl c.requires c.spend.ensures
    (λ s stands sound. disable-unknown s c.args.driver c.args.handle.number (own_stands c.args.self.now s c.args.driver c.args.handle.number None stands (c.own.ensures.row ∙ c.in_default.is)))

pub returns-then-row-eq0-clause-enters : goal.returns-then-row-eq0-clause-enters
returns-then-row-eq0-clause-enters g c =
    enters c.args.self.now c.spend-then-row-eq0.new.self c.args.driver (Disable c.args.handle.number) Warn stays refl refl c.requires c.spend-then-row-eq0.ensures
    (λ s stands sound. disable-warned s c.args.driver c.args.handle.number c.in-Some.row
    (own_stands c.args.self.now s c.args.driver c.args.handle.number (Some c.in-Some.row) stands (c.own.ensures.row ∙ c.in-Some.is)) c.if-row-eq0.true)

pub returns-clause-enters : goal.returns-clause-enters
returns-clause-enters g c =
    enters c.args.self.now c.drop_enable.new.self c.args.driver (Disable c.args.handle.number) Fine (puts c.args.handle.number (Some (enabled_less c.in-Some.row))) refl refl c.requires c.drop_enable.ensures
    (λ s stands sound. disable-fine s c.args.driver c.args.handle.number c.in-Some.row
    (own_stands c.args.self.now s c.args.driver c.args.handle.number (Some c.in-Some.row) stands (c.own.ensures.row ∙ c.in-Some.is)) (omega arith))
