-- So many children are settled.
use Rattle.std.proofs.Common.{◌-◌}
use Rattle.core_parts.proofs.SettledRows.{Settling}
use Rattle.core_parts.proofs.settling.+settle_below.Given as goal

abbrev pub decreases-settle_below : goal.decreases-settle_below
decreases-settle_below l = l.levels

abbrev pub invariant-loop-step : goal.invariant-loop-step
invariant-loop-step l = Settling l.fn.tree l.tree (l.levels - 1) l.fn.clock.0 l.next l._step
