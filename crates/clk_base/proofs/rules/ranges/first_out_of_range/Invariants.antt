-- The clocks before the next one pass.
use Rattle.std.proofs.Common.{◌≡◌, ℕ, ◌<◌, true}
use Rattle.clk_base.specs.Valid.{keeps_ranges}
use Rattle.clk_base.proofs.rules.ranges.first_out_of_range.Given as goal

abbrev pub invariant-loop-i : goal.invariant-loop-i
invariant-loop-i l = (k : ℕ) → k < l.i → keeps_ranges 0 l.defs k ≡ true
