-- The clocks before the next one have their parents.
use Rattle.std.proofs.Common.{◌≡◌, ℕ, ◌<◌, true}
use Rattle.clk_base.specs.Valid.{has_its_parents}
use Rattle.clk_base.proofs.check.have_parents.Given as goal

abbrev pub invariant-loop-def : goal.invariant-loop-def
invariant-loop-def l = (c : ℕ) → c < l.def-index → has_its_parents l.defs c ≡ true
