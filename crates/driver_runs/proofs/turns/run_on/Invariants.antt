use Rattle.std.proofs.Common.{◌≡◌, ℕ, ◌+◌, ◌≤◌, true, List, []}
use Rattle.std.specs.Prelude.{if◌then◌else◌}
use Rattle.clk_machine.specs.Run.{Run}
use Rattle.clk_model.specs.Lists.{is_at}
use Rattle.driver_runs.specs.Courses.{Course, IsNextAt, effort}
use Rattle.driver_runs.specs.Scripts.{HasGoneOn}
use Rattle.driver_runs.proofs.turns.run_on.Given as goal

-- events were made, less is left to do unless the driver's call is in flight, and then it is still the one that makes the next event
abbrev pub invariant-steps : goal.invariant-steps
invariant-steps g l = record {
  keeps : (first : Run) (order : List ℕ) → Course first l.drivers order l.fn.standings l.fn.going [] l.fn.core → Course first l.drivers order l.standings l.flying [] l.core;
  less : effort l.drivers l.standings l.flying + (if is_at l.driver l.flying then 0 else 1) ≤ effort l.drivers l.fn.standings l.fn.going;
  next : is_at l.driver l.flying ≡ true → IsNextAt l.flying l.drivers l.standings l.driver;
  on : HasGoneOn l.fn.core l.core;
}

-- fewer steps of its call are to come
abbrev pub decreases-steps : goal.decreases-steps
decreases-steps g l = l.core.left
