-- One holder less is owed to the clock where the walk is, and protections have fallen as prepares.
use Rattle.std.proofs.Common.{◌-◌, ◌<◌, ◌≤◌, length}
use Rattle.counts_core.specs.Sums.{AreSums}
use Rattle.counts_core.proofs.Walking.{zeros}
use Rattle.counts_core.proofs.Steps.{Lowering}
use Rattle.counts_core.specs.Sums.{Grows}
use Rattle.counts_core.proofs.coupled.release_up.Given as goal

abbrev pub invariant-loop-at : goal.invariant-loop-at
invariant-loop-at l = record {
  walk : Lowering l.links l.fn.prepares l.prepares l.fn.clock.0 l.at.0 l.stopped;
  place : l.at.0 < length l.links;
  few : l.stopped ≤ zeros l.prepares;
  sums : AreSums l.links l.protects.own.items l.protects.counts.items;
  grown : Grows l.gated l.fn.protects.own.items l.fn.prepares l.protects.own.items l.prepares;
}

abbrev pub decreases-loop-at : goal.decreases-loop-at
decreases-loop-at l = length l.prepares - zeros l.prepares
