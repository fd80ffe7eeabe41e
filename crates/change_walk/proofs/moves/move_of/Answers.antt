-- Step by step.
use Rattle.change_walk.proofs.Telling.{moved_on}
use Rattle.change_walk.proofs.moves.move_of.Goals as goal

pub loop-place-preserved : goal.loop-place-preserved
loop-place-preserved g c =
    moved_on c.args.tree.now.defs c.args.tree.now.clocks (g.V.View.means c.args.view.now).prepared c.args.clock.0 c.args.chain.now c.loop-place.place c.step_at.result c.loop-place.steps.items
    c.move_by.new.steps.items _
    c.step_at.ensures c.in_ok-move_by.ensures c.loop-place.invariant
