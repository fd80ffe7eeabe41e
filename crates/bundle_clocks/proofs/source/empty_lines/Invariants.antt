use Rattle.std.proofs.Common.{◌≡◌, [], replicate}
use Rattle.std.specs.Prelude.{string_bytes}
use Rattle.bundle_clocks.specs.Source.{text_of_lines}
use Rattle.bundle_clocks.proofs.source.empty_lines.Given as goal

-- so many empty lines so far
abbrev pub invariant-loop-at : goal.invariant-loop-at
invariant-loop-at l = string_bytes l.text ≡ text_of_lines (replicate l._at [])
