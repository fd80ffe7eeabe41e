use Rattle.std.proofs.Common.{◌∙◌, ℕ, Some, ap, subst}
use Rattle.clk_base.specs.declared.call.Sleeping.{Sleeping}
use Rattle.clk_base.specs.declared.event.Event.TheVariants.{Begin}
use Rattle.clk_model.specs.State.{State}
use Rattle.clk_machine.specs.Copied.{IsCopyOf, IsDecided}
use Rattle.clk_framework.specs.Calls.{DriverView, entry_of}
use Rattle.clk_framework.proofs.Following.{decides_known, followed_begin, stays_copy, unmade_copy}
use Rattle.clk_framework.proofs.Lending.{at_error, none_yet}
use Rattle.clk_framework.proofs.calling.plan.Goals as goal

pub begin-requires-clause-knows : goal.begin-requires-clause-knows
begin-requires-clause-knows g c =
    let d = c.args.driver.now in
    let made = c.in_ok-decision in
    decides_known d.fixed d.seen c.args.copy.now d.number c.args.what.now made.decision c.requires.copied
    (subst (λ (n : ℕ). (s : State) → IsCopyOf c.args.copy.now s → IsDecided s n c.args.what.now made.decision) c.number-number.ensures.number made.ensures.decides)

pub returns-in_err-reserve-clause-err : goal.returns-in_err-reserve-clause-err
returns-in_err-reserve-clause-err g c = at_error c.from_residual-in_err-reserve.result (none_yet c.args.driver.now)

pub returns-in_err-turn-clause-copied : goal.returns-in_err-turn-clause-copied
returns-in_err-turn-clause-copied g c =
    let d = c.args.driver.now in
    unmade_copy d c.begin.new.driver c.reserve.new.self (stays_copy d.fixed d.seen c.args.copy.now c.reserve.new.self c.requires.copied c.reserve.ensures.stays c.reserve.ensures.same)
    c.in_err-turn.ensures.err c.in_err-turn.ensures.beside

pub make-requires-clause-copied : goal.make-requires-clause-copied
make-requires-clause-copied g c κs within =
    let d = c.args.driver.now in
    let what = c.args.what.now in
    let turn = c.in_ok-turn.turn in
    let number = c.number-number.ensures.number in
    let makes = c.in_ok-turn.ensures.ok in
    followed_begin d c.begin.new.driver what turn c.reserve.new.self c.follow.new.self
    (stays_copy d.fixed d.seen c.args.copy.now c.reserve.new.self c.requires.copied c.reserve.ensures.stays c.reserve.ensures.same)
    (ap (λ (v : DriverView). v.fixed) makes.driver) c.in_ok-turn.ensures.seen makes.run (c.in_ok-reserve.ensures.room ∙ ap (λ (n : ℕ). let call : ℕ × Sleeping = (n, what) in Some call) number)
    (entry_of c.number-number.result (Begin what) turn) (ap (λ (n : ℕ). entry_of n (Begin what) turn) number) c.follow.ensures.follows c.follow.ensures.same
