-- The locks of a bundle.
use Rattle.std.proofs.Common.{ℕ, ◌<◌, ◌≤◌, List, [], ◌∷◌, arith}
use Rattle.std.specs.List.{AllByRecursion}
use Rattle.drv_scripts.specs.declared.bundle.LockLine.{LockLine}
use Rattle.reg_bank.specs.Locks.{most_plls}

-- the PLLs of a description are among those that a bank has
pub locks_few : (n : ℕ) (locks : List LockLine) → n ≤ most_plls → AllByRecursion (λ l. l.clock.0 < n) locks → AllByRecursion (λ l. l.clock.0 < most_plls) locks
locks_few n [] few all = tt
locks_few n (l ∷ locks) few all = (let low = all.0 in omega (arith, low, few), locks_few n locks few all.1)
