-- The framework is named after its lock.
use Rattle.framework_tests.proofs.threads.drivers_are_answered_side_by_side.Given as goal

abbrev pub ghosts-drive : goal.ghosts-drive
ghosts-drive g a = record { table = a.unnamed.lock.table }
