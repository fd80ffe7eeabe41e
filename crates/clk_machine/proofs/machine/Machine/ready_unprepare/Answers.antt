use Rattle.std.proofs.Common.{◌+◌, ◌∙◌, ◌<◌, List, true, false, Some, None, sym, ap, subst, arith, nat_le}
use Rattle.std.proofs.lemmas.Result.{on_ok_weaker}
use Rattle.clk_base.specs.declared.call.Micro.{Micro}
use Rattle.clk_base.specs.declared.call.Sleeping.TheVariants.{Unprepare}
use Rattle.clk_base.specs.declared.event.Errno.TheVariants.{ENOENT, ENOSPC}
use Rattle.clk_base.specs.declared.event.Reply.TheVariants.{Refused, Fine, Warn}
use Rattle.clk_model.specs.Begin.{most_credits}
use Rattle.clk_model.specs.Script.{plls}
use Rattle.clk_model.proofs.EventLaws.{unprepare-unknown, unprepare-warned}
use Rattle.clk_machine.specs.Parts.{Parts}
use Rattle.clk_machine.specs.SettingOut.{SetsOut}
use Rattle.clk_machine.proofs.Entered.{own_stands, frees_some}
use Rattle.clk_machine.proofs.Flying.{quiet_stands}
use Rattle.clk_machine.proofs.Lowering.{lower_script, Releases, freed_told, unprepare_done, unprepare_full, full_lowering}
use Rattle.clk_machine.proofs.SettingOut.{can_lower, never_paid, never_poor}
use Rattle.clk_machine.proofs.Starting.{room_told}
use Rattle.clk_machine.proofs.machine.Machine.ready_unprepare.Goals as goal

pub returns-in_default-clause-never : goal.returns-in_default-clause-never
returns-in_default-clause-never g c = λ off s t stands sound step.
    never_paid s t _ c.args.driver (Unprepare c.args.handle) (Refused ENOENT)
    (unprepare-unknown s c.args.driver c.args.handle (quiet_stands c.args.self.now s stands c.requires.machine)
    (own_stands c.args.self.now s c.args.driver c.args.handle.number None stands (c.own.ensures.row ∙ c.in_default.is))) step

pub returns-then-credits_left-eq0-clause-never : goal.returns-then-credits_left-eq0-clause-never
returns-then-credits_left-eq0-clause-never g c = λ off. never_poor c.args.self.now c.args.driver (Unprepare c.args.handle) (let left = c.credits_left.ensures in let none = c.if-credits_left-eq0.true in omega arith)

pub returns-then-keeps_prepare-clause-never : goal.returns-then-keeps_prepare-clause-never
returns-then-keeps_prepare-clause-never g c = λ off s t stands sound step.
    never_paid s t _ c.args.driver (Unprepare c.args.handle) Warn
    (unprepare-warned s c.args.driver c.args.handle c.in-Some.row (quiet_stands c.args.self.now s stands c.requires.machine)
    (own_stands c.args.self.now s c.args.driver c.args.handle.number (Some c.in-Some.row) stands (c.own.ensures.row ∙ c.in-Some.is)) (sym c.keeps_prepare.ensures ∙ c.if-keeps_prepare.true)) step

pub returns-then-not-frees_pll-clause-never : goal.returns-then-not-frees_pll-clause-never
returns-then-not-frees_pll-clause-never g c = λ off s t stands sound step.
    let free = sym c.keeps_prepare.ensures ∙ c.if-keeps_prepare.false in
    let left : c.args.self.now.spent < c.args.self.now.credits = let all = c.credits_left.ensures in let some = c.if-credits_left-eq0.false in omega arith in
    let is : Releases c.args.self.now c.args.handle.number c.in-Some.row =
    record { whole = c.own.ensures.whole; live = c.in-Some.ensures.live; some = frees_some c.in-Some.row free; left = left; keeps = c.frees_pll.ensures.counts } in
    never_paid s t _ c.args.driver (Unprepare c.args.handle) Fine
    (unprepare_done s c.args.driver c.args.handle c.in-Some.row (quiet_stands c.args.self.now s stands c.requires.machine)
    (own_stands c.args.self.now s c.args.driver c.args.handle.number (Some c.in-Some.row) stands (c.own.ensures.row ∙ c.in-Some.is)) free
    (freed_told c.args.self.now c.args.handle.number c.in-Some.row s c.frees_pll.result false c.if-not-frees_pll.true is stands c.frees_pll.ensures.found)) step

pub returns-then-not-can_lower-clause-never : goal.returns-then-not-can_lower-clause-never
returns-then-not-can_lower-clause-never g c = λ off s t stands sound step.
    let free = sym c.keeps_prepare.ensures ∙ c.if-keeps_prepare.false in
    let left : c.args.self.now.spent < c.args.self.now.credits = let all = c.credits_left.ensures in let some = c.if-credits_left-eq0.false in omega arith in
    let is : Releases c.args.self.now c.args.handle.number c.in-Some.row =
    record { whole = c.own.ensures.whole; live = c.in-Some.ensures.live; some = frees_some c.in-Some.row free; left = left; keeps = c.frees_pll.ensures.counts } in
    never_paid s t _ c.args.driver (Unprepare c.args.handle) (Refused ENOSPC)
    (unprepare_full s c.args.driver c.args.handle c.in-Some.row (quiet_stands c.args.self.now s stands c.requires.machine)
    (own_stands c.args.self.now s c.args.driver c.args.handle.number (Some c.in-Some.row) stands (c.own.ensures.row ∙ c.in-Some.is)) free
    (freed_told c.args.self.now c.args.handle.number c.in-Some.row s c.frees_pll.result true c.if-not-frees_pll.false is stands c.frees_pll.ensures.found)
    (full_lowering c.args.self.now s stands (ap (λ (q : Parts). nat_le (q.credits + q.steps + (plls q.desc.defs + 2)) most_credits) (sym c.frees_pll.ensures.same) ∙ sym c.can_lower.ensures ∙ c.if-not-can_lower.true))) step

pub returns-clause-ready : goal.returns-clause-ready
returns-clause-ready g c =
    on_ok_weaker c.fly.result
    (λ sets on.
    let free = sym c.keeps_prepare.ensures ∙ c.if-keeps_prepare.false in
    let left : c.args.self.now.spent < c.args.self.now.credits = let all = c.credits_left.ensures in let some = c.if-credits_left-eq0.false in omega arith in
    let is : Releases c.args.self.now c.args.handle.number c.in-Some.row =
    record { whole = c.own.ensures.whole; live = c.in-Some.ensures.live; some = frees_some c.in-Some.row free; left = left; keeps = c.frees_pll.ensures.counts } in
    can_lower c.args.self.now c.args.driver c.args.handle c.in-Some.row c.fly.new.flight c.requires.machine is (c.own.ensures.row ∙ c.in-Some.is) free
    (λ s stands. freed_told c.args.self.now c.args.handle.number c.in-Some.row s c.frees_pll.result true c.if-not-frees_pll.false is stands c.frees_pll.ensures.found)
    (room_told _ (sym c.if-not-can_lower.false ∙ c.can_lower.ensures ∙ ap (λ (q : Parts). nat_le (q.credits + q.steps + (plls q.desc.defs + 2)) most_credits) c.frees_pll.ensures.same))
    (subst (λ (q : Parts). SetsOut q c.args.driver (Unprepare c.args.handle) (lower_script c.in-Some.row.clock) c.fly.new.flight) c.frees_pll.ensures.same
    (subst (λ (ms : List Micro). SetsOut c.frees_pll.new.self c.args.driver (Unprepare c.args.handle) ms c.fly.new.flight) c.in_ok-script.ensures sets))) c.fly.ensures.ok
