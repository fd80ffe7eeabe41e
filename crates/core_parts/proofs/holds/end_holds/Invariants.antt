-- The holds end one by one.
use Rattle.std.proofs.Common.{◌≡◌}
use Rattle.std.specs.Prelude.{slice_index}
use Rattle.counts_core.specs.Counted.{AreCounts}
use Rattle.core_parts.specs.Holds.{Ends, own_of, with_own}
use Rattle.core_parts.proofs.holds.end_holds.Given as goal

abbrev pub invariant-loop-kind : goal.invariant-loop-kind
invariant-loop-kind l = record {
  counts : l.counts ≡ with_own l.kind l.initial.counts (own_of l.kind l.counts);
  stands : AreCounts l.counts;
  ends : Ends l.clock.0 (own_of l.kind l.initial.counts) (own_of l.kind l.counts) l.initial.held l.held;
}

abbrev pub decreases-loop-kind : goal.decreases-loop-kind
decreases-loop-kind l = slice_index l.held l.clock.0
