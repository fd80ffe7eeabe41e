use Rattle.std.proofs.Common.{◌≡◌, take}
use Rattle.std.specs.HashMap.{get}
use Rattle.dts_tree.specs.declared.names.Place.{Place}
use Rattle.dts_tree.specs.Read.{node_of}
use Rattle.dts_tree.specs.Taken.{same_place, taken_of}
use Rattle.dts_tree.proofs.targets.nodes_of_labels.Given as goal

-- the nodes of the labels so far
abbrev pub invariant-loop-label : goal.invariant-loop-label
invariant-loop-label l = (q : Place) → get same_place l.nodes q ≡ node_of l.text (take l.label-index l.labels) (taken_of q)
