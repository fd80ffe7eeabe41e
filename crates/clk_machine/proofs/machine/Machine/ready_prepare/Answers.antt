use Rattle.std.proofs.Common.{◌∙◌, List, sym, subst, true, Some, None, arith}
use Rattle.std.proofs.lemmas.Result.{on_ok_weaker}
use Rattle.clk_base.specs.declared.call.Micro.{Micro}
use Rattle.clk_base.specs.declared.call.Sleeping.TheVariants.{Prepare}
use Rattle.clk_base.specs.declared.event.Errno.TheVariants.{ENOENT, ENOSPC}
use Rattle.clk_base.specs.declared.event.Reply.TheVariants.{Refused, Fine}
use Rattle.clk_model.proofs.EventLaws.{prepare-unknown, prepare-fine}
use Rattle.clk_machine.specs.SettingOut.{SetsOut}
use Rattle.clk_machine.proofs.Entered.{own_stands}
use Rattle.clk_machine.proofs.Flying.{quiet_stands}
use Rattle.clk_machine.proofs.SettingOut.{can_prepare, never_paid, never_poor}
use Rattle.clk_machine.proofs.Starting.{none_unprepared, unprepared_told, full_stands, room_told, prepare_full}
use Rattle.clk_machine.proofs.machine.Machine.ready_prepare.Goals as goal

pub returns-in_default-clause-never : goal.returns-in_default-clause-never
returns-in_default-clause-never g c = λ off s t stands sound step.
    never_paid s t _ c.args.driver (Prepare c.args.handle) (Refused ENOENT)
    (prepare-unknown s c.args.driver c.args.handle (quiet_stands c.args.self.now s stands c.requires.machine)
    (own_stands c.args.self.now s c.args.driver c.args.handle.number None stands (c.own.ensures.row ∙ c.in_default.is))) step

pub returns-then-not-is_unprepared-clause-never : goal.returns-then-not-is_unprepared-clause-never
returns-then-not-is_unprepared-clause-never g c = λ off s t stands sound step.
    never_paid s t _ c.args.driver (Prepare c.args.handle) Fine
    (prepare-fine s c.args.driver c.args.handle c.in-Some.row (quiet_stands c.args.self.now s stands c.requires.machine)
    (own_stands c.args.self.now s c.args.driver c.args.handle.number (Some c.in-Some.row) stands (c.own.ensures.row ∙ c.in-Some.is))
    (none_unprepared c.args.self.now s c.in-Some.row.clock.0 c.own.ensures.whole stands (sym c.if-not-is_unprepared.true ∙ c.is_unprepared.ensures.unprepared))) step

pub returns-then-not-can_raise-clause-never : goal.returns-then-not-can_raise-clause-never
returns-then-not-can_raise-clause-never g c = λ off s t stands sound step.
    never_paid s t _ c.args.driver (Prepare c.args.handle) (Refused ENOSPC)
    (prepare_full s c.args.driver c.args.handle c.in-Some.row (quiet_stands c.args.self.now s stands c.requires.machine)
    (own_stands c.args.self.now s c.args.driver c.args.handle.number (Some c.in-Some.row) stands (c.own.ensures.row ∙ c.in-Some.is))
    (unprepared_told c.args.self.now s c.in-Some.row.clock.0 true c.own.ensures.whole stands (sym c.if-not-is_unprepared.false ∙ c.is_unprepared.ensures.unprepared))
    (full_stands c.args.self.now s stands (sym c.can_raise.ensures ∙ c.if-not-can_raise.true))) step

pub returns-then-credits_left-eq0-clause-never : goal.returns-then-credits_left-eq0-clause-never
returns-then-credits_left-eq0-clause-never g c = λ off. never_poor c.args.self.now c.args.driver (Prepare c.args.handle) (let left = c.credits_left.ensures in let none = c.if-credits_left-eq0.true in omega arith)

pub returns-clause-ready : goal.returns-clause-ready
returns-clause-ready g c =
    on_ok_weaker c.fly.result
    (λ sets on. can_prepare c.args.self.now c.args.driver c.args.handle c.in-Some.row c.fly.new.flight c.own.ensures.whole c.requires.machine (let left = c.credits_left.ensures in let some = c.if-credits_left-eq0.false in omega arith)
    (c.own.ensures.row ∙ c.in-Some.is) c.in-Some.ensures.live (sym c.if-not-is_unprepared.false ∙ c.is_unprepared.ensures.unprepared) (room_told _ (sym c.if-not-can_raise.false ∙ c.can_raise.ensures))
    (subst (λ (ms : List Micro). SetsOut c.args.self.now c.args.driver (Prepare c.args.handle) ms c.fly.new.flight) c.in_ok-script.ensures sets)) c.fly.ensures.ok
