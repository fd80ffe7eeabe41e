use Rattle.std.proofs.Common.{◌<◌, sym, subst, arith}
use Rattle.std.proofs.lemmas.Result.{on_ok_weaker}
use Rattle.clk_machine.specs.ChangingAlong.{Changes}
use Rattle.clk_machine.specs.Readied.{readied_of, scripted_of}
use Rattle.clk_machine.specs.Readied as readied
use Rattle.clk_machine.specs.Readying.{CanBeginSo, CanGoAlong, IsReady}
use Rattle.core_parts.specs.Course.{CourseState}
use Rattle.core_parts.specs.declared.decision.Verdict.{Verdict}
use Rattle.clk_machine.proofs.ChangingAlong.{can_go, never_refused, never_at_once}
use Rattle.clk_machine.proofs.SettingOut.{never_poor}
use Rattle.clk_machine.specs.ChangeCalls.{call_of}
use Rattle.clk_machine.proofs.ChangeCalls.{changes_of}
use Rattle.clk_machine.proofs.machine.Machine.ready_change.Goals as goal

pub returns-then-credits_left-eq0-clause-never : goal.returns-then-credits_left-eq0-clause-never
returns-then-credits_left-eq0-clause-never g c = λ off. never_poor c.args.self.now c.args.driver (call_of c.args.change) (let left = c.credits_left.ensures in let none = c.if-credits_left-eq0.true in omega arith)

pub returns-in-Change-clause-ready : goal.returns-in-Change-clause-ready
returns-in-Change-clause-ready g c =
    on_ok_weaker c.fly_along.result
    (λ sets on.
    let left : c.args.self.now.spent < c.args.self.now.credits = let all = c.credits_left.ensures in let some = c.if-credits_left-eq0.false in omega arith in
    let can : CanGoAlong c.args.self.now c.args.driver (call_of c.args.change) (scripted_of c.ready.new.draft) =
    subst (λ (v : Verdict). CanBeginSo c.args.self.now c.args.driver (call_of c.args.change) (readied_of c.ready.new.draft v)) c.in-Change.is c.in_ok-verdict.ensures.can in
    let ready : IsReady c.args.self.now c.args.driver (call_of c.args.change) (readied.Change (scripted_of c.ready.new.draft)) =
    subst (λ (v : Verdict). IsReady c.args.self.now c.args.driver (call_of c.args.change) (readied_of c.ready.new.draft v)) c.in-Change.is c.in_ok-verdict.ensures.ready in
    subst (λ (course : CourseState). Changes c.args.self.now c.args.driver (call_of c.args.change) c.fly_along.new.flight course) (sym c.fly_along.ensures.course)
    (can_go c.args.self.now c.args.driver (call_of c.args.change) (scripted_of c.ready.new.draft) c.fly_along.new.flight c.fly_along.ensures.whole c.requires.machine left (changes_of c.args.change) can ready sets)) c.fly_along.ensures.ok

pub returns-in-Refused-clause-never : goal.returns-in-Refused-clause-never
returns-in-Refused-clause-never g c = λ off.
    never_refused c.args.self.now c.args.driver (call_of c.args.change) _
    (subst (λ (v : Verdict). IsReady c.args.self.now c.args.driver (call_of c.args.change) (readied_of c.ready.new.draft v)) c.in-Refused.is c.in_ok-verdict.ensures.ready)

pub returns-in-AtOnce-clause-never : goal.returns-in-AtOnce-clause-never
returns-in-AtOnce-clause-never g c = λ off.
    never_at_once c.args.self.now c.args.driver (call_of c.args.change)
    (subst (λ (v : Verdict). IsReady c.args.self.now c.args.driver (call_of c.args.change) (readied_of c.ready.new.draft v)) c.in-AtOnce.is c.in_ok-verdict.ensures.ready)
