use Rattle.std.proofs.Common.{◌≡◌, map}
use Rattle.dts_clocks.specs.Clocks.{clocks_at}
use Rattle.dts_clocks.specs.Heads.{head_of}
use Rattle.dts_clocks.specs.Joined.{joined}
use Rattle.dts_clocks.proofs.numbers.heads.Given as goal

-- the nodes so far
abbrev pub invariant-loop-at : goal.invariant-loop-at
invariant-loop-at l = l.heads.items ≡ map head_of (joined (clocks_at l.chart) l.at)
