use Rattle.std.proofs.Common.{◌≡◌}
use Rattle.dts_clocks.specs.Above.{is_passed}
use Rattle.dts_clocks.specs.Joined.{listed}
use Rattle.dts_clocks.proofs.above.passed_nodes.Given as goal

-- the nodes so far
abbrev pub invariant-loop-at : goal.invariant-loop-at
invariant-loop-at l = l.passed.items ≡ listed (is_passed l.nodes) l.at
