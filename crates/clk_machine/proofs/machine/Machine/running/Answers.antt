use Rattle.std.proofs.Common.{refl, ◌∙◌, sym, ap, Bool, Some, None}
use Rattle.std.specs.Prelude.{if◌then◌else◌}
use Rattle.clk_base.specs.declared.event.Event.TheVariants.{Running}
use Rattle.clk_base.specs.declared.event.Errno.TheVariants.{ENOENT}
use Rattle.clk_base.specs.declared.event.Reply.TheVariants.{Refused, Yes, No}
use Rattle.clk_base.specs.declared.event.Turn.TheVariants.{Done}
use Rattle.clk_model.specs.Machine.{paid}
use Rattle.clk_model.proofs.EventLaws.{running-unknown, running-told}
use Rattle.clk_machine.specs.Holding.{stays}
use Rattle.clk_machine.proofs.Entered.{enters, own_stands}
use Rattle.clk_machine.proofs.Writing.{row_place}
use Rattle.clk_machine.proofs.machine.Machine.running.Goals as goal

pub is_active-runs-requires : goal.is_active-runs-requires
is_active-runs-requires g c = row_place c.args.self.now c.args.handle.number c.in-Some.row c.own.ensures.whole c.in-Some.ensures.live

pub returns-in_default-clause-enters : goal.returns-in_default-clause-enters
returns-in_default-clause-enters g c =
    enters c.args.self.now c.spend.new.self c.args.driver (Running c.args.handle.number) (Refused ENOENT) stays refl refl c.requires c.spend.ensures
    (λ s stands sound. running-unknown s c.args.driver c.args.handle.number (own_stands c.args.self.now s c.args.driver c.args.handle.number None stands (c.own.ensures.row ∙ c.in_default.is)))

pub returns-then-runs-clause-enters : goal.returns-then-runs-clause-enters
returns-then-runs-clause-enters g c =
    enters c.args.self.now c.spend-2.new.self c.args.driver (Running c.args.handle.number) Yes stays refl refl c.requires c.spend-2.ensures
    (λ s stands sound. running-told s c.args.driver c.args.handle.number c.in-Some.row
    (own_stands c.args.self.now s c.args.driver c.args.handle.number (Some c.in-Some.row) stands (c.own.ensures.row ∙ c.in-Some.is))
    ∙ ap (λ (b : Bool). paid s (s, Done (if b then Yes else No))) (sym (c.is_active-runs.ensures s stands) ∙ c.if-runs.true))

pub returns-else-runs-clause-enters : goal.returns-else-runs-clause-enters
returns-else-runs-clause-enters g c =
    enters c.args.self.now c.spend-2.new.self c.args.driver (Running c.args.handle.number) No stays refl refl c.requires c.spend-2.ensures
    (λ s stands sound. running-told s c.args.driver c.args.handle.number c.in-Some.row
    (own_stands c.args.self.now s c.args.driver c.args.handle.number (Some c.in-Some.row) stands (c.own.ensures.row ∙ c.in-Some.is))
    ∙ ap (λ (b : Bool). paid s (s, Done (if b then Yes else No))) (sym (c.is_active-runs.ensures s stands) ∙ c.if-runs.false))
