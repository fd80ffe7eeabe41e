-- A bank in memory, as contracts see it.
use Rattle.std.specs.Prelude.{◌≡◌, ℕ, ◌%◌, ◌^◌, ◌<◌, List, length, map, slice_index_or}
use Rattle.reg_bank.specs.declared.pll_lock.PllLock.{PllLock}
use Rattle.reg_bank.specs.Registers.{Registers, AreWords}
use Rattle.reg_bank.specs.Locks.{unarmed}
use Rattle.std.proofs.Common.{lit<}
use Rattle.std.proofs.Math.Nat.{mod-lt}
use Rattle.std.proofs.lemmas.List.{length-map}
use Rattle.std.proofs.lemmas.List.Elements.{All-map}

-- its words, and the locks of its PLLs
pub record Memory : Type 0 where
  pub words : Registers
  pub locks : List PllLock

-- the low 32 bits of each number, which is the number itself where it is a word
abbrev pub low_words : List ℕ → Registers
low_words values = map (λ value. value % 2 ^ 32) values

-- they are words of 32 bits, and as many
pub AreWords-low_words : (values : List ℕ) → AreWords (low_words values)
AreWords-low_words values = All-map (λ word. word < 2 ^ 32) (λ value. value % 2 ^ 32) values (λ k d within. mod-lt (slice_index_or values k d) (lit< tt))

pub length-low_words : (values : List ℕ) → length (low_words values) ≡ length values
length-low_words values = length-map values (λ value. value % 2 ^ 32)

-- the lock of a PLL
abbrev pub lock_at : Memory → ℕ → PllLock
lock_at bank pll = slice_index_or bank.locks pll unarmed
