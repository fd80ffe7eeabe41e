use Rattle.std.proofs.Common.{◌≡◌, map, take}
use Rattle.std.specs.List.{flat_map}
use Rattle.dts_tree.specs.Tree.{seen_value}
use Rattle.dts_bindings.specs.Properties.{cells_of}
use Rattle.dts_bindings.proofs.reading.joined.Given as goal

-- the cells of the values so far
abbrev pub invariant-loop-value : goal.invariant-loop-value
invariant-loop-value l = l.found.items ≡ flat_map cells_of (map seen_value (take l.value-index l.values))
