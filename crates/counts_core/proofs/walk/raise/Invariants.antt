-- One holder more is owed to the clock where the walk is.
use Rattle.std.proofs.Common.{ℕ, ◌+◌, ◌<◌, ◌≤◌, length, get_or}
use Rattle.counts_core.proofs.Walking.{zeros}
use Rattle.counts_core.proofs.Steps.{Raising}
use Rattle.counts_core.proofs.walk.raise.Given as goal

abbrev pub invariant-loop-at : goal.invariant-loop-at
invariant-loop-at l = record {
  walk : Raising l.links l.fn.counts l.counts l.fn.clock.0 l.at.0 l.begun;
  place : l.at.0 < length l.links;
  room : (d : ℕ) → get_or l.counts d 0 ≤ 1073741824;
  few : l.begun + zeros l.counts ≤ zeros l.fn.counts;
}

abbrev pub decreases-loop-at : goal.decreases-loop-at
decreases-loop-at l = zeros l.counts
