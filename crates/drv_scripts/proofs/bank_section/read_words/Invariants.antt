use Rattle.std.proofs.Common.{◌≡◌, ◌-◌, length}
use Rattle.drv_scripts.specs.BankLines.{word_fault, words_of}
use Rattle.drv_scripts.specs.Judged.{KeepsBetween}
use Rattle.drv_scripts.proofs.bank_section.read_words.Given as goal

-- the lines so far have no fault, and the bank is as they say
abbrev pub invariant-loop-at : goal.invariant-loop-at
invariant-loop-at l = record {
  kept : KeepsBetween (word_fault l.size l.lines) l.from l.at;
  words : l.bank.items ≡ words_of l.size l.lines l.from (l.at - l.from);
  count : length l.bank.items ≡ l.size;
}
