-- The drivers are of these resets.
use Rattle.journal_tests.proofs.reset_seats.drivers_share_a_line_side_by_side.Given as goal

abbrev pub ghosts-drive : goal.ghosts-drive
ghosts-drive g a = record { table = a.resets.now.table }
