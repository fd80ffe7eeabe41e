use Rattle.std.proofs.Common.{◌≡◌, ◌++◌, length}
use Rattle.dts_tree.specs.Steps.{bytes_of}
use Rattle.dts_tree.proofs.reader.bytes.push_bytes.Given as goal

-- what was pushed so far, and the bytes of the rest
abbrev pub invariant-loop-rest : goal.invariant-loop-rest
invariant-loop-rest l = l.items.items ++ bytes_of l.rest ≡ l.initial.items.items ++ bytes_of l.word

abbrev pub decreases-loop-rest : goal.decreases-loop-rest
decreases-loop-rest l = length l.rest
