-- The delays of locks with which a run begins.
use Rattle.std.specs.Prelude.{ℕ, ◌==◌, List, [], ◌∷◌, Option, option_map, if◌then◌else◌}
use Rattle.drv_scripts.specs.declared.bundle.LockLine.{LockLine}
use Rattle.reg_bank.specs.Locks.{armed}
use Rattle.reg_bank.specs.declared.pll_lock.PllLock.{PllLock}

-- a PLL's lock after these lines, of which a later one wins
abbrev pub armed_by : List LockLine → ℕ → Option PllLock → Option PllLock
armed_by [] pll lock = lock
armed_by (line ∷ lines) pll lock = armed_by lines pll (if line.clock.0 == pll then option_map (armed line.polls) lock else lock)
