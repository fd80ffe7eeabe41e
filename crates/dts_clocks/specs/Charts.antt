-- The tables that are kept of the nodes, so that none is looked for twice.
use Rattle.std.specs.Prelude.{◌≡◌, ℕ, Bool, Option, List, length}
use Rattle.dts_tree.specs.Tree.{SeenNode}
use Rattle.dts_clocks.specs.declared.reference.Reference.{Reference}
use Rattle.dts_clocks.specs.Above.{is_passed}
use Rattle.dts_clocks.specs.Joined.{listed}
use Rattle.dts_clocks.specs.References.{node_of_phandle, source_at}

-- the tables tell which nodes are passed over, the node of each phandle, and each node as a provider
pub record Charts (nodes : List SeenNode) (passed : List Bool) (phandles : ℕ → Option ℕ) (sources : List Reference) : Type 0 where
  pub passed_are : passed ≡ listed (is_passed nodes) (length nodes)
  pub phandles_are : (v : ℕ) → phandles v ≡ node_of_phandle nodes v
  pub sources_are : sources ≡ listed (source_at nodes) (length nodes)
