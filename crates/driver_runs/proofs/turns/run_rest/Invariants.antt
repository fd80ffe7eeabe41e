use Rattle.std.proofs.Common.{ℕ, List, []}
use Rattle.clk_machine.specs.Run.{Run}
use Rattle.driver_runs.specs.Courses.{Course, effort}
use Rattle.driver_runs.specs.Scripts.{HasGoneOn}
use Rattle.driver_runs.proofs.turns.run_rest.Given as goal

-- events were made
abbrev pub invariant-events : goal.invariant-events
invariant-events g l = record {
  keeps : (first : Run) (order : List ℕ) → Course first l.drivers order l.fn.standings l.fn.going [] l.fn.core → Course first l.drivers order l.standings l.flying [] l.core;
  on : HasGoneOn l.fn.core l.core;
}

-- less is left to do
abbrev pub decreases-events : goal.decreases-events
decreases-events g l = effort l.drivers l.standings l.flying
