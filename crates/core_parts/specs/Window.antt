-- The words of a bank that a description uses.
use Rattle.std.specs.Prelude.{◌≡◌, ℕ, ◌<◌, List, Option, Some, None, IfSome, drop, length, map, slice_index_or}
use Rattle.std.specs.Option.{option_map}
use Rattle.reg_bank.specs.Locks.{most_plls}
use Rattle.reg_bank.specs.Registers.{AreWords}
use Rattle.clk_model.specs.Lists.{count_from}
use Rattle.reg_bank.specs.declared.pll_lock.PllLock.{PllLock}
use Rattle.core_parts.specs.declared.behind.Behind.{Behind}

-- how many words there are, where the bank tells them the words, what lies behind them, and the locks of PLLs where it tells these
pub record Shown : Type 0 where
  pub size : ℕ
  pub words : Option (List ℕ)
  pub behind : Behind
  pub locks : List (Option PllLock)

-- the words that are told are words of 32 bits, as many as there are
abbrev pub AreTold : ℕ → Option (List ℕ) → Type 0
AreTold size told = IfSome told (λ words. AreWords words × (length words ≡ size))

-- as many locks as there may be PLLs
unfoldable pub lock_count : ℕ
lock_count = most_plls

-- the locks of all PLLs as a list, and the lock of one in such a list
abbrev pub locks_of : (ℕ → Option PllLock) → List (Option PllLock)
locks_of lock = map lock (count_from 0 lock_count)

abbrev pub lock_in : List (Option PllLock) → ℕ → Option PllLock
lock_in locks p = slice_index_or locks p None

-- ---- what lies behind the words

-- the delays of these locks
abbrev pub delays_in : List (Option PllLock) → List (Option ℕ)
delays_in locks = map (option_map (λ lock. lock.delay)) locks

-- what lies behind so many words of a bank with these words and these locks
abbrev pub behind_of : ℕ → Option (List ℕ) → (ℕ → Option PllLock) → Behind
behind_of size contents lock = record { words = option_map (drop size) contents; delays = delays_in (locks_of lock) }

-- the lock of each PLL asks for so many polls
abbrev pub HasDelays : List (Option ℕ) → (ℕ → ℕ) → Type 0
HasDelays delays delay = (y : ℕ) → y < most_plls → slice_index_or delays y None ≡ Some (delay y)
