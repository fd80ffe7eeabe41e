use Rattle.std.proofs.Common.{◌≡◌, ◌+◌, ◌≤◌, ◌++◌, length}
use Rattle.std.specs.Str.Lines.{lines}
use Rattle.bundle_text.specs.Words.{texts}
use Rattle.bundle_text.proofs.text_lines.lines_of.Given as goal

-- what was found so far and the lines of the rest are all lines, and each took a byte
abbrev pub invariant-loop-at : goal.invariant-loop-at
invariant-loop-at l = record {
  whole : texts l.found.items ++ lines l.rest ≡ lines l.bytes;
  few : length l.found.items + length l.rest ≤ length l.bytes;
}

abbrev pub decreases-loop-at : goal.decreases-loop-at
decreases-loop-at l = length l.rest
