-- The room so far is that of the steps so far.
use Rattle.std.proofs.Common.{◌≡◌, take}
use Rattle.std.specs.Prelude.{sum_by}
use Rattle.clk_flight.specs.Kept.{room_for}
use Rattle.clk_flight.proofs.script.room_for.Given as goal

abbrev pub invariant-loop-step : goal.invariant-loop-step
invariant-loop-step l = l.room ≡ sum_by (room_for l.plls) (take l.step-index l.steps)
