use Rattle.std.proofs.Common.{codes}
use Rattle.std.proofs.lemmas.List.{append_cancel_right}
use Rattle.clk_model.specs.Text.{spaced}
use Rattle.clk_journal.proofs.ReadBack.{entry_words}
use Rattle.clk_journal.proofs.WholeJournals.{entry_same}
use Rattle.clk_journal.proofs.laws.one_entry.Goals as goal

pub returns : goal.returns
returns c defs names number e f apart small first second same =
    entry_same defs names apart number e f small first second (append_cancel_right (spaced (entry_words defs names number e)) (spaced (entry_words defs names number f)) (codes "\n") same)
