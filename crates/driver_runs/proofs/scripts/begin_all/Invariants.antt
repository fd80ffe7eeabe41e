use Rattle.std.proofs.Common.{take}
use Rattle.driver_runs.specs.Moves.{AreNew}
use Rattle.driver_runs.proofs.scripts.begin_all.Given as goal

-- the drivers so far are new
abbrev pub invariant-loop-script : goal.invariant-loop-script
invariant-loop-script l = AreNew (take l.script-index l.drivers) l.standings.items
