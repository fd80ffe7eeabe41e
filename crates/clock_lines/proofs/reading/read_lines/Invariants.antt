-- the lines so far have no fault, and their clocks are gathered
use Rattle.clock_lines.specs.Steps.{IsRead, lines_in}
use Rattle.clock_lines.proofs.reading.read_lines.Given as goal

abbrev pub invariant-loop-place : goal.invariant-loop-place
invariant-loop-place l = IsRead l.section.version (lines_in l.section) l.place l.clocks
