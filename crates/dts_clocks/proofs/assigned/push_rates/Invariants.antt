use Rattle.std.proofs.Common.{◌≡◌, ◌++◌}
use Rattle.std.specs.Prelude.{slice_get}
use Rattle.dts_clocks.specs.Assigned.{clock_at, rate_step}
use Rattle.dts_clocks.specs.Joined.{joined}
use Rattle.dts_clocks.proofs.assigned.push_rates.Given as goal

-- the rates so far
abbrev pub invariant-loop-at : goal.invariant-loop-at
invariant-loop-at l = l.steps.items ≡ l.initial.steps.items ++ joined (λ i. rate_step (clock_at l.lists.clocks.items i) (slice_get l.lists.rates.items i)) l.at
