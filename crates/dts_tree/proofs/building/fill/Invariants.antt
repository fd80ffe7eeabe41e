use Rattle.std.proofs.Common.{◌≡◌, List, [], map, take}
use Rattle.dts_tree.specs.declared.rows.NodeRow.{NodeRow}
use Rattle.dts_tree.specs.State.{state_of}
use Rattle.dts_tree.specs.Tree.{seen_node, nodes_in, property_in}
use Rattle.dts_tree.proofs.building.fill.Given as goal

-- the nodes with the properties so far
abbrev pub invariant-loop-row : goal.invariant-loop-row
invariant-loop-row l = (bare : List NodeRow) → map seen_node l.initial.nodes.items ≡ nodes_in l.text (property_in l.text (state_of l.reader).tables l.targets) [] 0 bare
    → map seen_node l.nodes.items ≡ nodes_in l.text (property_in l.text (state_of l.reader).tables l.targets) (take l.row-index l.rows) 0 bare
