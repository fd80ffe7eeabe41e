-- None so far is the parent.
use Rattle.std.proofs.Common.{◌≡◌, ℕ, ◌<◌, false, get_or}
use Rattle.std.specs.Prelude.{◌==◌}
use Rattle.change_walk.proofs.moves.place_in.Given as goal

abbrev pub invariant-loop-place : goal.invariant-loop-place
invariant-loop-place l = (k : ℕ) → k < l.place → ((get_or l.parents k (record { 0 = 0 })).0 == l.parent.0) ≡ false
