use Rattle.std.proofs.Common.{◌≡◌, ℕ, ◌<◌, ◌≤◌, false}
use Rattle.driver_runs.specs.Moves.{can_move_at}
use Rattle.driver_runs.proofs.moving.first_to_move.Given as goal

-- the drivers so far can make no event
abbrev pub invariant-loop-place : goal.invariant-loop-place
invariant-loop-place l = (k : ℕ) → 0 < k → k ≤ l.place → can_move_at l.going l.drivers l.standings k ≡ false
