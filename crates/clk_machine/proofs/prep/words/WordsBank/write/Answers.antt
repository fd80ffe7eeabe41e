use Rattle.std.proofs.Common.{List, ℕ, Some, ap}
use Rattle.reg_bank.proofs.LowWords.{low_words-set}
use Rattle.clk_machine.proofs.prep.words.WordsBank.write.Goals as goal

pub returns-clause-words : goal.returns-clause-words
returns-clause-words c =
    rw (← c.self.view_is) (ap (λ (ws : List ℕ). Some ws) (low_words-set c.self.inside.cells.items c.args.word c.args.value c.ranges.value.fits))
