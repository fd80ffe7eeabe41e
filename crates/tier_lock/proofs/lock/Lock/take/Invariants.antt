-- The name is the lock's own fixed part.
use Rattle.std.proofs.Common.{Some}
use Rattle.tier_lock.proofs.lock.Lock.take.Given as goal

abbrev pub ghosts-try_take : goal.ghosts-try_take
ghosts-try_take g a = record { fixed = Some (g.T.Kept.fixed a.shared.now.key.value) }

abbrev pub ghosts-wait_for_value : goal.ghosts-wait_for_value
ghosts-wait_for_value g a = record { fixed = Some (g.T.Kept.fixed a.shared.now.key.value) }
