-- The locks of PLLs, and what arming, starting and polling make of them.
use Rattle.std.specs.Prelude.{ℕ, ◌+◌, ◌-◌, ◌^◌, min, nat_le, Bool}
use Rattle.reg_bank.specs.declared.pll_lock.PllLock.{PllLock}

-- PLLs have numbers below this one
abbrev pub most_plls : ℕ
most_plls = 4096

-- a lock that was never armed answers yes from the first poll on
abbrev pub unarmed : PllLock
unarmed = record { delay = 1; polls = 0 }

-- the lock with this delay
abbrev pub armed : ℕ → PllLock → PllLock
armed delay lock = record lock { delay = delay }

-- the lock without a poll since its last start
abbrev pub started : PllLock → PllLock
started lock = record lock { polls = 0 }

-- the lock with a poll more; polls are counted up to 4294967295
abbrev pub polled : PllLock → PllLock
polled lock = record lock { polls = min (lock.polls + 1) (2 ^ 32 - 1) }

-- whether a lock answers yes: it was polled as often as its delay says, or more
abbrev pub is_locked : PllLock → Bool
is_locked lock = nat_le lock.delay lock.polls
