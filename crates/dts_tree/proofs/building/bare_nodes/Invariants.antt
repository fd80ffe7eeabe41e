use Rattle.std.proofs.Common.{◌≡◌, [], map, take}
use Rattle.dts_tree.specs.declared.rows.PropertyRow.{PropertyRow}
use Rattle.dts_tree.specs.Tree.{SeenProperty, seen_node, nodes_in}
use Rattle.dts_tree.proofs.building.bare_nodes.Given as goal

-- the nodes so far
abbrev pub invariant-loop-row : goal.invariant-loop-row
invariant-loop-row l = (shows : PropertyRow → SeenProperty) → map seen_node l.nodes.items ≡ nodes_in l.text shows [] 0 (take l.row-index l.rows)
