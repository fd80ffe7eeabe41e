use Rattle.std.proofs.Common.{refl, ◌∙◌, sym, true, Some, None, arith}
use Rattle.clk_base.specs.declared.event.Event.TheVariants.{Begin}
use Rattle.clk_base.specs.declared.event.Errno.TheVariants.{ENOENT, ENOSPC}
use Rattle.clk_base.specs.declared.event.Reply.TheVariants.{Refused, Fine}
use Rattle.clk_base.specs.declared.call.Sleeping.TheVariants.{Prepare}
use Rattle.clk_model.proofs.EventLaws.{prepare-unknown, prepare-fine}
use Rattle.clk_machine.specs.Holding.{prepared_more, puts, stays}
use Rattle.clk_machine.proofs.Entered.{enters, own_stands}
use Rattle.clk_machine.proofs.Flying.{quiet_stands}
use Rattle.clk_model.specs.Script.{plls}
use Rattle.core_parts.specs.Listed.{rows_from}
use Rattle.clk_machine.proofs.Needing.{after_any, prepare_needs}
use Rattle.clk_machine.proofs.Starting.{raise_left, none_unprepared, unprepared_told, full_stands, room_told, prepare_full, enters_prepare}
use Rattle.clk_machine.proofs.machine.Machine.begin_prepare.Goals as goal

pub is_unprepared-requires : goal.is_unprepared-requires
is_unprepared-requires g c = c.own.ensures.whole.handled c.args.handle.number c.in-Some.row c.in-Some.ensures.live

pub start_prepare-requires-clause-room : goal.start_prepare-requires-clause-room
start_prepare-requires-clause-room g c = room_told _ (sym c.if-not-can_raise.false ∙ c.can_raise.ensures)

pub returns-in_default-clause-ok : goal.returns-in_default-clause-ok
returns-in_default-clause-ok g c =
    enters c.args.self.now c.spend.new.self c.args.driver (Begin (Prepare c.args.handle)) (Refused ENOENT) stays refl c.requires.quiet c.requires.credit c.spend.ensures
    (λ s stands sound. prepare-unknown s c.args.driver c.args.handle (quiet_stands c.args.self.now s stands c.requires.quiet)
    (own_stands c.args.self.now s c.args.driver c.args.handle.number None stands (c.own.ensures.row ∙ c.in_default.is)))

pub returns-then-not-is_unprepared-clause-ok : goal.returns-then-not-is_unprepared-clause-ok
returns-then-not-is_unprepared-clause-ok g c =
    enters c.args.self.now c.add_prepare.new.self c.args.driver (Begin (Prepare c.args.handle)) Fine (puts c.args.handle.number (Some (prepared_more c.in-Some.row))) refl c.requires.quiet c.requires.credit c.add_prepare.ensures
    (λ s stands sound. prepare-fine s c.args.driver c.args.handle c.in-Some.row (quiet_stands c.args.self.now s stands c.requires.quiet)
    (own_stands c.args.self.now s c.args.driver c.args.handle.number (Some c.in-Some.row) stands (c.own.ensures.row ∙ c.in-Some.is))
    (none_unprepared c.args.self.now s c.in-Some.row.clock.0 c.own.ensures.whole stands (sym c.if-not-is_unprepared.true ∙ c.is_unprepared.ensures.unprepared)))

pub returns-then-not-can_raise-clause-ok : goal.returns-then-not-can_raise-clause-ok
returns-then-not-can_raise-clause-ok g c =
    enters c.args.self.now c.spend-then-not-can_raise.new.self c.args.driver (Begin (Prepare c.args.handle)) (Refused ENOSPC) stays refl c.requires.quiet c.requires.credit c.spend-then-not-can_raise.ensures
    (λ s stands sound. prepare_full s c.args.driver c.args.handle c.in-Some.row (quiet_stands c.args.self.now s stands c.requires.quiet)
    (own_stands c.args.self.now s c.args.driver c.args.handle.number (Some c.in-Some.row) stands (c.own.ensures.row ∙ c.in-Some.is))
    (unprepared_told c.args.self.now s c.in-Some.row.clock.0 true c.own.ensures.whole stands (sym c.if-not-is_unprepared.false ∙ c.is_unprepared.ensures.unprepared))
    (full_stands c.args.self.now s stands (sym c.can_raise.ensures ∙ c.if-not-can_raise.true)))

pub returns-clause-ok : goal.returns-clause-ok
returns-clause-ok g c =
    enters_prepare c.args.self.now c.start_prepare.new.self c.args.driver c.args.handle c.in-Some.row c.own.ensures.whole c.requires.quiet c.requires.credit
    (λ s stands. own_stands c.args.self.now s c.args.driver c.args.handle.number (Some c.in-Some.row) stands (c.own.ensures.row ∙ c.in-Some.is))
    (sym c.if-not-is_unprepared.false ∙ c.is_unprepared.ensures.unprepared) (room_told _ (sym c.if-not-can_raise.false ∙ c.can_raise.ensures)) c.in_ok-start_prepare.ensures.ok

pub returns-in_err-make_room-clause-needs : goal.returns-in_err-make_room-clause-needs
returns-in_err-make_room-clause-needs g c =
    after_any c.from_residual.result
    (prepare_needs c.args.self.now c.args.driver c.args.handle c.in-Some.row c.own.ensures.whole c.requires.quiet c.requires.credit
    (λ s stands. own_stands c.args.self.now s c.args.driver c.args.handle.number (Some c.in-Some.row) stands (c.own.ensures.row ∙ c.in-Some.is))
    (sym c.if-not-is_unprepared.false ∙ c.is_unprepared.ensures.unprepared) (room_told _ (sym c.if-not-can_raise.false ∙ c.can_raise.ensures)))

pub returns-in_err-start_prepare-clause-needs : goal.returns-in_err-start_prepare-clause-needs
returns-in_err-start_prepare-clause-needs g c =
    after_any c.from_residual-in_err-start_prepare.result
    (prepare_needs c.args.self.now c.args.driver c.args.handle c.in-Some.row c.own.ensures.whole c.requires.quiet c.requires.credit
    (λ s stands. own_stands c.args.self.now s c.args.driver c.args.handle.number (Some c.in-Some.row) stands (c.own.ensures.row ∙ c.in-Some.is))
    (sym c.if-not-is_unprepared.false ∙ c.is_unprepared.ensures.unprepared) (room_told _ (sym c.if-not-can_raise.false ∙ c.can_raise.ensures)))

pub returns-clause-room : goal.returns-clause-room
returns-clause-room g c = λ goes.
    let left = c.in_ok-start_prepare.ensures.ok.left in
    let few = raise_left (rows_from 0 c.args.self.now.chains) (plls c.args.self.now.desc.defs) c.in-Some.row.clock in
    let credits = c.credits_left.ensures in
    let most = c.most_raises.ensures.most in
    let room = c.in_ok-make_room.ensures.room in
    omega arith
