-- At first no line was read.
use Rattle.clock_lines.specs.Steps.{lines_in}
use Rattle.clock_lines.proofs.Turns.{read-none}
use Rattle.clock_lines.proofs.reading.read_lines.Goals as goal

pub loop-place-init : goal.loop-place-init
loop-place-init c = rw c.new-clocks.ensures (read-none c.args.section.now.version (lines_in c.args.section.now))
