-- The clocks before the next one pass.
use Rattle.std.proofs.Common.{◌≡◌, ℕ, ◌<◌, true}
use Rattle.clk_base.specs.Valid.{keeps_counts}
use Rattle.clk_base.proofs.rules.counts.first_uncounted.Given as goal

abbrev pub invariant-loop-i : goal.invariant-loop-i
invariant-loop-i l = (k : ℕ) → k < l.i → keeps_counts 0 l.defs k ≡ true
