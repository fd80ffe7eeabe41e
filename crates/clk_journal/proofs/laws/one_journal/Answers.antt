use Rattle.std.proofs.Common.{arith}
use Rattle.clk_journal.proofs.WholeJournals.{entries_same}
use Rattle.clk_journal.proofs.laws.one_journal.Goals as goal

pub returns : goal.returns
returns c defs names j k apart few first second same = entries_same defs names apart 1 j k (omega (arith, few)) first second same
