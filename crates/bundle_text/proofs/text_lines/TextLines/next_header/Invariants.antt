use Rattle.std.proofs.Common.{◌≡◌, ℕ, ◌<◌, ◌≤◌, false}
use Rattle.bundle_text.specs.Lines.{line_at, is_header}
use Rattle.bundle_text.proofs.text_lines.TextLines.next_header.Given as goal

-- no line between is a header
abbrev pub invariant-loop-at : goal.invariant-loop-at
invariant-loop-at l = (k : ℕ) → l.from ≤ k → k < l.at → is_header (line_at l.self k) ≡ false
