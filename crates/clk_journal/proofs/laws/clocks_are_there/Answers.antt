use Rattle.clk_journal.proofs.PlacedRuns.{runs_name}
use Rattle.clk_journal.proofs.Sizes.{can_be_told}
use Rattle.clk_journal.proofs.laws.clocks_are_there.Goals as goal

pub returns-clause-named : goal.returns-clause-named
returns-clause-named c defs words ignore_unused credits journal valid legal calls = runs_name defs words ignore_unused credits journal valid legal calls

pub returns-clause-can : goal.returns-clause-can
returns-clause-can c defs names e driver sized named = can_be_told defs names e driver sized named
