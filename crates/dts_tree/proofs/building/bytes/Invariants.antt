use Rattle.std.proofs.Common.{◌≡◌, take}
use Rattle.std.specs.List.{filter_map}
use Rattle.dts_tree.specs.Tree.{byte_in}
use Rattle.dts_tree.proofs.building.bytes.Given as goal

-- what was made of the rows so far
abbrev pub invariant-loop-item : goal.invariant-loop-item
invariant-loop-item l = l.found.items ≡ filter_map byte_in (take l.item-index l.items)
