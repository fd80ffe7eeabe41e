-- A step that moves its clock ends the search.
use Rattle.std.proofs.Common.{sym, ◌∙◌, arith}
use Rattle.rate_planner.proofs.Walking.{one_moves, none_moves, no_step_left}
use Rattle.rate_planner.proofs.walk.has_moves.Goals as goal

pub loop-place-preserved : goal.loop-place-preserved
loop-place-preserved c = none_moves c.args.tree.now.clocks c.args.steps.now c.loop-place.place _ _ c.loop-place-test.true (sym c.moves.ensures ∙ c.if-moves.false) c.loop-place.invariant

pub returns-then-moves : goal.returns-then-moves
returns-then-moves c = one_moves c.args.tree.now.clocks c.args.steps.now c.loop-place.place _ _ c.loop-place-test.true (sym c.moves.ensures ∙ c.if-moves.true) c.loop-place.invariant

pub returns : goal.returns
returns c = no_step_left c.args.tree.now.clocks c.args.steps.now c.loop-place.place _ (let past = c.loop-place-test.false in omega arith) c.loop-place.invariant
