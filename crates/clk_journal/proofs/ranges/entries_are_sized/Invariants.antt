-- The numbers of the entries so far are of their sizes.
use Rattle.std.specs.List.{AllWithin}
use Rattle.clk_journal.specs.Sized.{IsSized}
use Rattle.clk_journal.proofs.ranges.entries_are_sized.Given as goal

abbrev pub invariant-loop-entry : goal.invariant-loop-entry
invariant-loop-entry l = record { sized : AllWithin IsSized l.entries 0 l.entry-index }
