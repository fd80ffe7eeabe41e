-- The lists of a node, put together.
use Rattle.std.proofs.Common.{◌≡◌, ℕ, List, Option, Some, codes, refl}
use Rattle.clk_base.specs.declared.clock.ClockId.{ClockId}
use Rattle.dts_tree.specs.Tree.{SeenNode}
use Rattle.dts_clocks.specs.Assigned.{rates_of, lists_of}
use Rattle.dts_clocks.specs.Consumers.{clocks_in}

pub lists_made : (nodes : List SeenNode) (node : SeenNode) (clocks parents : List (Option ClockId)) (rates : List ℕ) → Some clocks ≡ clocks_in nodes (codes "assigned-clocks") node → Some parents ≡ clocks_in nodes (codes "assigned-clock-parents") node
    → rates ≡ rates_of node → Some (record { clocks = clocks; parents = parents; rates = rates }) ≡ lists_of nodes node
unfolding lists_of
lists_made nodes node clocks parents rates a b r = rw (← a, ← b, ← r) refl
