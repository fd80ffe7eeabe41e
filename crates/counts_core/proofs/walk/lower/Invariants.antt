-- One holder less is owed to the clock where the walk is.
use Rattle.std.proofs.Common.{◌-◌, ◌<◌, ◌≤◌, length}
use Rattle.counts_core.proofs.Walking.{zeros}
use Rattle.counts_core.proofs.Steps.{Lowering}
use Rattle.counts_core.proofs.walk.lower.Given as goal

abbrev pub invariant-loop-at : goal.invariant-loop-at
invariant-loop-at l = record {
  walk : Lowering l.links l.fn.counts l.counts l.fn.clock.0 l.at.0 l.stopped;
  place : l.at.0 < length l.links;
  few : l.stopped ≤ zeros l.counts;
}

abbrev pub decreases-loop-at : goal.decreases-loop-at
decreases-loop-at l = length l.counts - zeros l.counts
