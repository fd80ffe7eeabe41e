use Rattle.std.proofs.Common.{drop}
use Rattle.driver_runs.specs.Courses.{Course}
use Rattle.driver_runs.proofs.turns.follow_order.Given as goal

-- the drivers have made their events, and this is left of the order
abbrev pub invariant-loop-driver : goal.invariant-loop-driver
invariant-loop-driver g l = Course l.fn.core l.drivers l.order l.standings l.going (drop l.driver-index l.order) l.core
