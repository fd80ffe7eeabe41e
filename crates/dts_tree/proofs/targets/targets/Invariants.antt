use Rattle.std.proofs.Common.{◌≡◌, ◌++◌, Ok, drop}
use Rattle.dts_tree.specs.Grown.{◌>>=◌}
use Rattle.dts_tree.specs.Read.{targets}
use Rattle.dts_tree.proofs.targets.targets.Given as goal

-- the nodes so far, and those of the references that are left
abbrev pub invariant-loop-reference : goal.invariant-loop-reference
invariant-loop-reference l = targets l.text l.labels l.references ≡ (targets l.text l.labels (drop l.reference-index l.references) >>= λ nodes. Ok (l.found.items ++ nodes))
