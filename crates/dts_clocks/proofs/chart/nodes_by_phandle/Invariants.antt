use Rattle.std.proofs.Common.{◌≡◌, ℕ, nat_eq, take}
use Rattle.std.specs.HashMap.{get}
use Rattle.dts_clocks.specs.References.{node_of_phandle}
use Rattle.dts_clocks.proofs.chart.nodes_by_phandle.Given as goal

-- the nodes so far
abbrev pub invariant-loop-at : goal.invariant-loop-at
invariant-loop-at l = (v : ℕ) → get nat_eq l.places v ≡ node_of_phandle (take l.at l.nodes) v
