-- None of the steps so far is of the clock.
use Rattle.std.proofs.Common.{◌≡◌, drop}
use Rattle.clk_tree.specs.Plans.{chain_of}
use Rattle.change_walk.specs.Changes.{parent_after}
use Rattle.change_walk.proofs.changes.parent_after.Given as goal

abbrev pub invariant-loop-place : goal.invariant-loop-place
invariant-loop-place l = parent_after l.tree.clocks (drop l.place (chain_of l.chain)) l.clock.0 ≡ parent_after l.tree.clocks (chain_of l.chain) l.clock.0
