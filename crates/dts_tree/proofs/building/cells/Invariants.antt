use Rattle.std.proofs.Common.{◌≡◌, take}
use Rattle.std.specs.List.{filter_map}
use Rattle.dts_tree.specs.Tree.{cell_in}
use Rattle.dts_tree.proofs.building.cells.Given as goal

-- what was made of the rows so far
abbrev pub invariant-loop-item : goal.invariant-loop-item
invariant-loop-item l = l.found.items ≡ filter_map (cell_in l.targets) (take l.item-index l.items)
