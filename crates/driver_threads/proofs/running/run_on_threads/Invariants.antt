-- The framework is named after its lock.
use Rattle.driver_threads.proofs.running.run_on_threads.Given as goal

abbrev pub ghosts-run_named : goal.ghosts-run_named
ghosts-run_named g a = record { table = a.unnamed.lock.table }
