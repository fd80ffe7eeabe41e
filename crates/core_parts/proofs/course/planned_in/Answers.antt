-- Step by step.
use Rattle.std.proofs.Common.{eq-eqb}
use Rattle.std.proofs.lemmas.Bool.{ne_eqb}
use Rattle.core_parts.proofs.Setting.{planned_found, planned_passed}
use Rattle.core_parts.proofs.course.planned_in.Goals as goal

pub returns-then-step-clock : goal.returns-then-step-clock
returns-then-step-clock c =
    planned_found c.args.steps.now c.loop-place.place c.step_at-step.result c.args.clock.0 _ c.step_at-step.ensures (eq-eqb _ _ c.if-step-clock.true) c.loop-place.invariant

pub loop-place-preserved : goal.loop-place-preserved
loop-place-preserved c =
    planned_passed c.args.steps.now c.loop-place.place c.step_at-step.result c.args.clock.0 _ c.step_at-step.ensures (ne_eqb _ _ c.if-step-clock.false) c.loop-place.invariant
