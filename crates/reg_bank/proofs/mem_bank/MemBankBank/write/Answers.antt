use Rattle.std.proofs.Common.{List, ℕ, Some, ap}
use Rattle.reg_bank.proofs.LowWords.{low_words-set}
use Rattle.reg_bank.proofs.mem_bank.MemBankBank.write.Goals as goal

pub returns-clause-words : goal.returns-clause-words
returns-clause-words c =
    rw (← c.self.view_is) (ap (λ (ws : List ℕ). Some ws) (low_words-set c.self.inside.cells.items c.args.word c.args.value c.ranges.value.fits))
