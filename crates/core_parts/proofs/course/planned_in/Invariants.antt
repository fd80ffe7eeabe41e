-- None of the steps so far is of the clock.
use Rattle.std.proofs.Common.{◌≡◌, drop}
use Rattle.clk_tree.specs.Plans.{chain_of}
use Rattle.core_parts.specs.Course.{planned_along}
use Rattle.core_parts.proofs.course.planned_in.Given as goal

abbrev pub invariant-loop-place : goal.invariant-loop-place
invariant-loop-place l = planned_along (drop l.place (chain_of l.steps)) l.clock.0 ≡ planned_along (chain_of l.steps) l.clock.0
