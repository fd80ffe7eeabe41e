use Rattle.std.proofs.Common.{◌≡◌, map, drop}
use Rattle.std.specs.Prelude.{slice_get}
use Rattle.std.specs.List.{flat_map}
use Rattle.dts_tree.specs.Tree.{seen_value}
use Rattle.dts_bindings.specs.Properties.{cells_of}
use Rattle.dts_bindings.proofs.reading.cell_at.Given as goal

-- the place among the cells of the values that are left
abbrev pub invariant-loop-value : goal.invariant-loop-value
invariant-loop-value l = slice_get (flat_map cells_of (map seen_value (drop l.value-index l.values))) l.left ≡ slice_get (flat_map cells_of (map seen_value l.values)) l.place
