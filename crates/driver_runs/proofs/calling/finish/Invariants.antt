use Rattle.clk_machine.specs.Run.{driver_in_flight}
use Rattle.driver_runs.specs.Steps.{MakesSteps}
use Rattle.driver_runs.proofs.calling.finish.Given as goal

-- steps of the call were made, and it is still in flight
abbrev pub invariant-steps : goal.invariant-steps
invariant-steps g l = MakesSteps l.fn.core (driver_in_flight l.fn.core.journal) l.core

-- fewer steps are to come
abbrev pub decreases-steps : goal.decreases-steps
decreases-steps g l = l.core.left
