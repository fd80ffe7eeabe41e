use Rattle.std.proofs.Common.{◌≡◌, ◌++◌, [], replicate}
use Rattle.std.specs.Prelude.{string_bytes, slice_range}
use Rattle.bundle_clocks.specs.Source.{text_of_lines}
use Rattle.bundle_clocks.proofs.source.source_of.Given as goal

-- the empty lines and the lines so far
abbrev pub invariant-loop-at : goal.invariant-loop-at
invariant-loop-at l = string_bytes l.source ≡ text_of_lines (replicate l.first [] ++ slice_range l.lines l.first l.at)
