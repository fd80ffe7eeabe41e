use Rattle.bundle_text.specs.Firsts.{KeepsBelow}
use Rattle.bundle_sections.specs.Sections.{text_fault}
use Rattle.bundle_sections.proofs.reading.check_text.Given as goal

-- the lines before are UTF-8
abbrev pub invariant-loop-at : goal.invariant-loop-at
invariant-loop-at l = KeepsBelow (text_fault l.lines) l.at
