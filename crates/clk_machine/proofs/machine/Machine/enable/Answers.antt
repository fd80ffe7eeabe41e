use Rattle.std.proofs.Common.{refl, ◌∙◌, arith, Some, None}
use Rattle.clk_base.specs.declared.event.Event.TheVariants.{Enable}
use Rattle.clk_base.specs.declared.event.Errno.TheVariants.{ENOENT, ESHUTDOWN}
use Rattle.clk_base.specs.declared.event.Reply.TheVariants.{Refused, Fine}
use Rattle.clk_model.proofs.EventLaws.{enable-unknown, enable-unprepared, enable-fine}
use Rattle.clk_machine.specs.Holding.{enabled_more, puts, stays}
use Rattle.clk_machine.proofs.Entered.{enters, own_stands}
use Rattle.clk_machine.proofs.machine.Machine.enable.Goals as goal

pub returns-in_default-clause-enters : goal.returns-in_default-clause-enters
returns-in_default-clause-enters g c =
    enters c.args.self.now c.spend.new.self c.args.driver (Enable c.args.handle.number) (Refused ENOENT) stays refl refl c.requires c.spend.ensures
    (λ s stands sound. enable-unknown s c.args.driver c.args.handle.number (own_stands c.args.self.now s c.args.driver c.args.handle.number None stands (c.own.ensures.row ∙ c.in_default.is)))

pub returns-then-row-eq0-clause-enters : goal.returns-then-row-eq0-clause-enters
returns-then-row-eq0-clause-enters g c =
    enters c.args.self.now c.spend-then-row-eq0.new.self c.args.driver (Enable c.args.handle.number) (Refused ESHUTDOWN) stays refl refl c.requires c.spend-then-row-eq0.ensures
    (λ s stands sound. enable-unprepared s c.args.driver c.args.handle.number c.in-Some.row
    (own_stands c.args.self.now s c.args.driver c.args.handle.number (Some c.in-Some.row) stands (c.own.ensures.row ∙ c.in-Some.is)) c.if-row-eq0.true)

pub returns-clause-enters : goal.returns-clause-enters
returns-clause-enters g c =
    enters c.args.self.now c.add_enable.new.self c.args.driver (Enable c.args.handle.number) Fine (puts c.args.handle.number (Some (enabled_more c.in-Some.row))) refl refl c.requires c.add_enable.ensures
    (λ s stands sound. enable-fine s c.args.driver c.args.handle.number c.in-Some.row
    (own_stands c.args.self.now s c.args.driver c.args.handle.number (Some c.in-Some.row) stands (c.own.ensures.row ∙ c.in-Some.is)) (omega arith))
