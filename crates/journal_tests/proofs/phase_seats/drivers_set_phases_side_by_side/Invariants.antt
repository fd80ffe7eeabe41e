-- The drivers are of these phases.
use Rattle.journal_tests.proofs.phase_seats.drivers_set_phases_side_by_side.Given as goal

abbrev pub ghosts-drive : goal.ghosts-drive
ghosts-drive g a = record { table = a.phases.now.table }
