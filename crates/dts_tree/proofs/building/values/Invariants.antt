use Rattle.std.proofs.Common.{◌≡◌, map, take}
use Rattle.std.specs.List.{filter_map}
use Rattle.dts_tree.specs.Tree.{seen_value, value_in}
use Rattle.dts_tree.proofs.building.values.Given as goal

-- what was made of the rows so far
abbrev pub invariant-loop-row : goal.invariant-loop-row
invariant-loop-row l = map seen_value l.found.items ≡ filter_map (value_in l.text l.items l.targets) (take l.row-index l.rows)
