-- What was added with what is left makes the whole.
use Rattle.std.proofs.Common.{◌≡◌, ◌++◌, drop}
use Rattle.clk_model.specs.Script.{move_of}
use Rattle.clk_tree.specs.Plans.{chain_of}
use Rattle.change_walk.proofs.moves.move_of.Given as goal

abbrev pub invariant-loop-place : goal.invariant-loop-place
invariant-loop-place g l =
    l.steps.items ++ move_of l.tree.defs l.tree.clocks (g.V.View.means l.view).prepared (drop l.place (chain_of l.chain)) l.clock.0
    ≡ l.fn.steps.items ++ move_of l.tree.defs l.tree.clocks (g.V.View.means l.view).prepared (chain_of l.chain) l.clock.0
