use Rattle.bundle_text.specs.Firsts.{KeepsBelow}
use Rattle.bundle_sections.specs.Sections.{fault_at}
use Rattle.bundle_sections.proofs.reading.check_front.Given as goal

-- the lines before say nothing
abbrev pub invariant-loop-at : goal.invariant-loop-at
invariant-loop-at l = KeepsBelow (fault_at l.lines) l.at
