use Rattle.std.proofs.Common.{◌+◌, refl, ◌∙◌, sym, ap, subst, true, false, Some, None, nat_le, arith}
use Rattle.clk_base.specs.declared.event.Event.TheVariants.{Begin}
use Rattle.clk_base.specs.declared.event.Errno.TheVariants.{ENOENT, ENOSPC}
use Rattle.clk_base.specs.declared.event.Reply.TheVariants.{Refused, Fine, Warn}
use Rattle.clk_base.specs.declared.call.Sleeping.TheVariants.{Unprepare}
use Rattle.clk_model.proofs.EventLaws.{unprepare-unknown, unprepare-warned}
use Rattle.clk_model.specs.Begin.{most_credits}
use Rattle.clk_model.specs.Script.{plls}
use Rattle.core_parts.specs.Listed.{rows_from}
use Rattle.clk_machine.specs.Holding.{prepared_less, puts, stays}
use Rattle.clk_machine.specs.Parts.{Parts}
use Rattle.clk_machine.specs.Stands.{nothing, Becomes}
use Rattle.clk_machine.specs.Starting.{StartsCall}
use Rattle.clk_machine.proofs.Entered.{enters, own_stands, frees_some}
use Rattle.clk_machine.proofs.Flying.{quiet_stands}
use Rattle.clk_machine.proofs.Needing.{after_any, unprepare_needs}
use Rattle.clk_machine.proofs.Starting.{room_told}
use Rattle.clk_machine.proofs.Lowering.{lower_left, lower_script, Releases, freed_told, full_lowering, unprepare_done, unprepare_full, enters_unprepare}
use Rattle.clk_machine.proofs.machine.Machine.begin_unprepare.Goals as goal

pub frees_pll-requires-clause-some : goal.frees_pll-requires-clause-some
frees_pll-requires-clause-some g c = frees_some c.in-Some.row (sym c.keeps_prepare.ensures ∙ c.if-keeps_prepare.false)

pub drop_prepare-requires-clause-some : goal.drop_prepare-requires-clause-some
drop_prepare-requires-clause-some g c = frees_some c.in-Some.row (sym c.keeps_prepare.ensures ∙ c.if-keeps_prepare.false)

pub start_unprepare-requires-clause-some : goal.start_unprepare-requires-clause-some
start_unprepare-requires-clause-some g c = frees_some c.in-Some.row (sym c.keeps_prepare.ensures ∙ c.if-keeps_prepare.false)

pub start_unprepare-requires-clause-room : goal.start_unprepare-requires-clause-room
start_unprepare-requires-clause-room g c = room_told _ (sym c.if-not-can_lower.false ∙ c.can_lower.ensures)

pub returns-in_default-clause-ok : goal.returns-in_default-clause-ok
returns-in_default-clause-ok g c =
    enters c.args.self.now c.spend.new.self c.args.driver (Begin (Unprepare c.args.handle)) (Refused ENOENT) stays refl c.requires.quiet c.requires.credit c.spend.ensures
    (λ s stands sound. unprepare-unknown s c.args.driver c.args.handle (quiet_stands c.args.self.now s stands c.requires.quiet)
    (own_stands c.args.self.now s c.args.driver c.args.handle.number None stands (c.own.ensures.row ∙ c.in_default.is)))

pub returns-then-keeps_prepare-clause-ok : goal.returns-then-keeps_prepare-clause-ok
returns-then-keeps_prepare-clause-ok g c =
    enters c.args.self.now c.spend-then-keeps_prepare.new.self c.args.driver (Begin (Unprepare c.args.handle)) Warn stays refl c.requires.quiet c.requires.credit c.spend-then-keeps_prepare.ensures
    (λ s stands sound. unprepare-warned s c.args.driver c.args.handle c.in-Some.row (quiet_stands c.args.self.now s stands c.requires.quiet)
    (own_stands c.args.self.now s c.args.driver c.args.handle.number (Some c.in-Some.row) stands (c.own.ensures.row ∙ c.in-Some.is)) (sym c.keeps_prepare.ensures ∙ c.if-keeps_prepare.true))

pub returns-then-not-frees_pll-clause-ok : goal.returns-then-not-frees_pll-clause-ok
returns-then-not-frees_pll-clause-ok g c =
    let free = sym c.keeps_prepare.ensures ∙ c.if-keeps_prepare.false in
    let is : Releases c.args.self.now c.args.handle.number c.in-Some.row =
    record { whole = c.own.ensures.whole; live = c.in-Some.ensures.live; some = frees_some c.in-Some.row free; left = c.requires.credit; keeps = c.frees_pll.ensures.counts } in
    enters c.args.self.now c.drop_prepare.new.self c.args.driver (Begin (Unprepare c.args.handle)) Fine (puts c.args.handle.number (Some (prepared_less c.in-Some.row))) refl c.requires.quiet c.requires.credit
    (subst (λ (q : Parts). Becomes q nothing (puts c.args.handle.number (Some (prepared_less c.in-Some.row))) c.drop_prepare.new.self) c.frees_pll.ensures.same c.drop_prepare.ensures)
    (λ s stands sound. unprepare_done s c.args.driver c.args.handle c.in-Some.row (quiet_stands c.args.self.now s stands c.requires.quiet)
    (own_stands c.args.self.now s c.args.driver c.args.handle.number (Some c.in-Some.row) stands (c.own.ensures.row ∙ c.in-Some.is)) free
    (freed_told c.args.self.now c.args.handle.number c.in-Some.row s c.frees_pll.result false c.if-not-frees_pll.true is stands c.frees_pll.ensures.found))

pub returns-then-not-can_lower-clause-ok : goal.returns-then-not-can_lower-clause-ok
returns-then-not-can_lower-clause-ok g c =
    let free = sym c.keeps_prepare.ensures ∙ c.if-keeps_prepare.false in
    let is : Releases c.args.self.now c.args.handle.number c.in-Some.row =
    record { whole = c.own.ensures.whole; live = c.in-Some.ensures.live; some = frees_some c.in-Some.row free; left = c.requires.credit; keeps = c.frees_pll.ensures.counts } in
    enters c.args.self.now c.spend-then-not-can_lower.new.self c.args.driver (Begin (Unprepare c.args.handle)) (Refused ENOSPC) stays refl c.requires.quiet c.requires.credit
    (subst (λ (q : Parts). Becomes q nothing stays c.spend-then-not-can_lower.new.self) c.frees_pll.ensures.same c.spend-then-not-can_lower.ensures)
    (λ s stands sound. unprepare_full s c.args.driver c.args.handle c.in-Some.row (quiet_stands c.args.self.now s stands c.requires.quiet)
    (own_stands c.args.self.now s c.args.driver c.args.handle.number (Some c.in-Some.row) stands (c.own.ensures.row ∙ c.in-Some.is)) free
    (freed_told c.args.self.now c.args.handle.number c.in-Some.row s c.frees_pll.result true c.if-not-frees_pll.false is stands c.frees_pll.ensures.found)
    (full_lowering c.args.self.now s stands (ap (λ (q : Parts). nat_le (q.credits + q.steps + (plls q.desc.defs + 2)) most_credits) (sym c.frees_pll.ensures.same) ∙ sym c.can_lower.ensures ∙ c.if-not-can_lower.true)))

pub returns-clause-ok : goal.returns-clause-ok
returns-clause-ok g c =
    let free = sym c.keeps_prepare.ensures ∙ c.if-keeps_prepare.false in
    let is : Releases c.args.self.now c.args.handle.number c.in-Some.row =
    record { whole = c.own.ensures.whole; live = c.in-Some.ensures.live; some = frees_some c.in-Some.row free; left = c.requires.credit; keeps = c.frees_pll.ensures.counts } in
    enters_unprepare c.args.self.now c.start_unprepare.new.self c.args.driver c.args.handle c.in-Some.row c.requires.quiet c.requires.credit
    (λ s stands. own_stands c.args.self.now s c.args.driver c.args.handle.number (Some c.in-Some.row) stands (c.own.ensures.row ∙ c.in-Some.is)) free
    (λ s stands. freed_told c.args.self.now c.args.handle.number c.in-Some.row s c.frees_pll.result true c.if-not-frees_pll.false is stands c.frees_pll.ensures.found)
    (room_told _ (sym c.if-not-can_lower.false ∙ c.can_lower.ensures ∙ ap (λ (q : Parts). nat_le (q.credits + q.steps + (plls q.desc.defs + 2)) most_credits) c.frees_pll.ensures.same))
    (subst (λ (q : Parts). StartsCall q c.args.driver (Unprepare c.args.handle) (lower_script c.in-Some.row.clock) (puts c.args.handle.number (Some (prepared_less c.in-Some.row))) c.start_unprepare.new.self) c.frees_pll.ensures.same c.in_ok-start_unprepare.ensures.ok)

pub returns-in_err-make_room-clause-needs : goal.returns-in_err-make_room-clause-needs
returns-in_err-make_room-clause-needs g c =
    let free = sym c.keeps_prepare.ensures ∙ c.if-keeps_prepare.false in
    let is : Releases c.args.self.now c.args.handle.number c.in-Some.row =
    record { whole = c.own.ensures.whole; live = c.in-Some.ensures.live; some = frees_some c.in-Some.row free; left = c.requires.credit; keeps = c.frees_pll.ensures.counts } in
    after_any c.from_residual.result
    (unprepare_needs c.args.self.now c.args.driver c.args.handle c.in-Some.row c.requires.quiet c.requires.credit
    (λ s stands. own_stands c.args.self.now s c.args.driver c.args.handle.number (Some c.in-Some.row) stands (c.own.ensures.row ∙ c.in-Some.is)) free
    (λ s stands. freed_told c.args.self.now c.args.handle.number c.in-Some.row s c.frees_pll.result true c.if-not-frees_pll.false is stands c.frees_pll.ensures.found)
    (room_told _ (sym c.if-not-can_lower.false ∙ c.can_lower.ensures ∙ ap (λ (q : Parts). nat_le (q.credits + q.steps + (plls q.desc.defs + 2)) most_credits) c.frees_pll.ensures.same)))

pub returns-in_err-start_unprepare-clause-needs : goal.returns-in_err-start_unprepare-clause-needs
returns-in_err-start_unprepare-clause-needs g c =
    let free = sym c.keeps_prepare.ensures ∙ c.if-keeps_prepare.false in
    let is : Releases c.args.self.now c.args.handle.number c.in-Some.row =
    record { whole = c.own.ensures.whole; live = c.in-Some.ensures.live; some = frees_some c.in-Some.row free; left = c.requires.credit; keeps = c.frees_pll.ensures.counts } in
    after_any c.from_residual-in_err-start_unprepare.result
    (unprepare_needs c.args.self.now c.args.driver c.args.handle c.in-Some.row c.requires.quiet c.requires.credit
    (λ s stands. own_stands c.args.self.now s c.args.driver c.args.handle.number (Some c.in-Some.row) stands (c.own.ensures.row ∙ c.in-Some.is)) free
    (λ s stands. freed_told c.args.self.now c.args.handle.number c.in-Some.row s c.frees_pll.result true c.if-not-frees_pll.false is stands c.frees_pll.ensures.found)
    (room_told _ (sym c.if-not-can_lower.false ∙ c.can_lower.ensures ∙ ap (λ (q : Parts). nat_le (q.credits + q.steps + (plls q.desc.defs + 2)) most_credits) c.frees_pll.ensures.same)))

pub returns-clause-room : goal.returns-clause-room
returns-clause-room g c = λ goes.
    let starts = subst (λ (q : Parts). StartsCall q c.args.driver (Unprepare c.args.handle) (lower_script c.in-Some.row.clock) (puts c.args.handle.number (Some (prepared_less c.in-Some.row))) c.start_unprepare.new.self) c.frees_pll.ensures.same c.in_ok-start_unprepare.ensures.ok in
    let left = starts.left in
    let few = lower_left (rows_from 0 c.args.self.now.chains) (plls c.args.self.now.desc.defs) c.in-Some.row.clock in
    let same = c.frees_pll.ensures.same in
    let one = ap (λ (q : Parts). q.credits) same in
    let two = ap (λ (q : Parts). q.spent) same in
    let three = ap (λ (q : Parts). plls q.desc.defs) same in
    let credits = c.credits_left.ensures in
    let most = c.most_lowers.ensures.most in
    let room = c.in_ok-make_room.ensures.room in
    omega arith
