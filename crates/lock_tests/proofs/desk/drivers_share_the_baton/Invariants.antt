-- The mutex keeps the baton of this lock.
use Rattle.lock_tests.proofs.desk.drivers_share_the_baton.Given as goal

abbrev pub ghosts-drive : goal.ghosts-drive
ghosts-drive g a = record { table = a.lock.now.table }
