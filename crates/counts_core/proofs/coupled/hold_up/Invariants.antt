-- One holder more is owed to the clock where the walk is, and protections have grown as prepares.
use Rattle.std.proofs.Common.{ℕ, ◌+◌, ◌<◌, ◌≤◌, length, get_or}
use Rattle.counts_core.specs.Sums.{AreSums}
use Rattle.counts_core.proofs.Walking.{zeros}
use Rattle.counts_core.proofs.Steps.{Raising}
use Rattle.counts_core.specs.Sums.{Grows}
use Rattle.counts_core.proofs.coupled.hold_up.Given as goal

abbrev pub invariant-loop-at : goal.invariant-loop-at
invariant-loop-at l = record {
  walk : Raising l.links l.fn.prepares l.prepares l.fn.clock.0 l.at.0 l.begun;
  place : l.at.0 < length l.links;
  room : (d : ℕ) → get_or l.prepares d 0 ≤ 268435456;
  few : l.begun + zeros l.prepares ≤ zeros l.fn.prepares;
  sums : AreSums l.links l.protects.own.items l.protects.counts.items;
  grown : Grows l.gated l.fn.protects.own.items l.fn.prepares l.protects.own.items l.prepares;
}

abbrev pub decreases-loop-at : goal.decreases-loop-at
decreases-loop-at l = zeros l.prepares
