-- The copy has gone along with the entries so far.
use Rattle.std.specs.Prelude.{take}
use Rattle.clk_machine.specs.Tracing.{Traces}
use Rattle.clk_machine.proofs.prep.Prep.trace.Given as goal

abbrev pub invariant-loop-entry : goal.invariant-loop-entry
invariant-loop-entry l = Traces l.initial.self (take l.entry-index l.journal) l.self
