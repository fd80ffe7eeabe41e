-- The table tells of lines of so many clocks.
use Rattle.clk_base.specs.Tables.{TellsEnds}
use Rattle.clk_base.proofs.rules.levels.lines_end.Given as goal

abbrev pub invariant-loop-level : goal.invariant-loop-level
invariant-loop-level l = TellsEnds l.defs l.level l.ends.items
