-- The table tells of lines of so many clocks.
use Rattle.clk_tree.specs.PllCounts.{TellsPlls}
use Rattle.clk_tree.proofs.plls.most_plls.Given as goal

abbrev pub invariant-loop-level : goal.invariant-loop-level
invariant-loop-level l = TellsPlls l.desc.defs l.level l.counts.items
