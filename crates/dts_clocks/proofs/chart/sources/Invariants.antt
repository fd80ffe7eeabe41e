use Rattle.std.proofs.Common.{◌≡◌}
use Rattle.dts_clocks.specs.Joined.{listed}
use Rattle.dts_clocks.specs.References.{source_at}
use Rattle.dts_clocks.proofs.chart.sources.Given as goal

-- the nodes so far
abbrev pub invariant-loop-at : goal.invariant-loop-at
invariant-loop-at l = l.sources.items ≡ listed (source_at l.nodes) l.at
