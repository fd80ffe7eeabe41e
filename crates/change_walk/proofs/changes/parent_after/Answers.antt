-- Step by step.
use Rattle.std.proofs.Common.{eq-eqb}
use Rattle.std.proofs.lemmas.Bool.{ne_eqb}
use Rattle.change_walk.proofs.Telling.{after_found, after_passed}
use Rattle.change_walk.proofs.changes.parent_after.Goals as goal

pub returns-then-step-clock : goal.returns-then-step-clock
returns-then-step-clock c =
    after_found c.args.tree.now.clocks c.args.chain.now c.loop-place.place c.step_at-step.result c.args.clock.0 _ c.step_at-step.ensures (eq-eqb _ _ c.if-step-clock.true) c.loop-place.invariant

pub loop-place-preserved : goal.loop-place-preserved
loop-place-preserved c =
    after_passed c.args.tree.now.clocks c.args.chain.now c.loop-place.place c.step_at-step.result c.args.clock.0 _ c.step_at-step.ensures (ne_eqb _ _ c.if-step-clock.false) c.loop-place.invariant
