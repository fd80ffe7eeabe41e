-- The room that is moved is the one that was asked for.
use Rattle.tier_lock.proofs.lock.Lock.split.Given as goal

abbrev pub ghosts-split_off : goal.ghosts-split_off
ghosts-split_off g a = record { amount = a.room }
