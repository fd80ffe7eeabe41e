use Rattle.std.proofs.Common.{◌≡◌, ◌++◌}
use Rattle.dts_clocks.specs.Assigned.{clock_at, parent_step}
use Rattle.dts_clocks.specs.Joined.{joined}
use Rattle.dts_clocks.proofs.assigned.push_parents.Given as goal

-- the parents so far
abbrev pub invariant-loop-at : goal.invariant-loop-at
invariant-loop-at l = l.steps.items ≡ l.initial.steps.items ++ joined (λ i. parent_step (clock_at l.lists.clocks.items i) (clock_at l.lists.parents.items i)) l.at
