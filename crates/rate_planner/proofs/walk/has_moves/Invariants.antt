-- Whether one of the steps left moves its clock is whether one of all does.
use Rattle.std.proofs.Common.{◌≡◌, drop}
use Rattle.clk_tree.specs.Plans.{chain_of}
use Rattle.rate_planner.specs.Walks.{has_moves}
use Rattle.rate_planner.proofs.walk.has_moves.Given as goal

abbrev pub invariant-loop-place : goal.invariant-loop-place
invariant-loop-place l = has_moves l.tree.clocks (drop l.place (chain_of l.steps)) ≡ has_moves l.tree.clocks (chain_of l.steps)
