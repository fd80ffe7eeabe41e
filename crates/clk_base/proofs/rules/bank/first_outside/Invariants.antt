-- The clocks before the next one pass.
use Rattle.std.proofs.Common.{◌≡◌, ℕ, ◌<◌, true}
use Rattle.clk_base.specs.Valid.{keeps_bank}
use Rattle.clk_base.proofs.rules.bank.first_outside.Given as goal

abbrev pub invariant-loop-i : goal.invariant-loop-i
invariant-loop-i l = (k : ℕ) → k < l.i → keeps_bank l.words l.defs k ≡ true
