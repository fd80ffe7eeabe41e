use Rattle.std.proofs.Common.{◌≡◌, ◌++◌, map, take}
use Rattle.dts_tree.specs.Grown.{owned_by}
use Rattle.dts_tree.proofs.reader.own.Given as goal

-- the labels so far belong to the node
abbrev pub invariant-loop-name : goal.invariant-loop-name
invariant-loop-name l = l.labels.items ≡ l.initial.labels.items ++ map (owned_by l.node) (take l.name-index l.pending)
