-- The clocks before the next one aren't among their own possible ancestors.
use Rattle.std.proofs.Common.{◌≡◌, ℕ, ◌<◌, true}
use Rattle.clk_base.specs.Valid.{keeps_acyclic}
use Rattle.clk_base.proofs.rules.cycles.first_own_ancestor.Given as goal

abbrev pub invariant-loop-i : goal.invariant-loop-i
invariant-loop-i l = (k : ℕ) → k < l.i → keeps_acyclic 0 l.defs k ≡ true
