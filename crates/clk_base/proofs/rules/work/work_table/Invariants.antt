-- The table tells of the work over lines of so many clocks.
use Rattle.clk_base.specs.Tables.{TellsWork}
use Rattle.clk_base.proofs.rules.work.work_table.Given as goal

abbrev pub invariant-loop-level : goal.invariant-loop-level
invariant-loop-level l = TellsWork l.defs l.level l.works.items
