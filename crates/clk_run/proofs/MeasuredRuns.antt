-- The bundle that is run to measure isn't refused.
use Rattle.std.proofs.Common.{ℕ, ◌<◌, ◌≤◌}
use Rattle.bundle_text.specs.declared.reason.Reason.{Reason}
use Rattle.clk_gen.specs.Generated.{generated}
use Rattle.drv_scripts.specs.Verdict.{Refuses}
use Rattle.drv_scripts.proofs.Verdicts.{never_both}
use Rattle.gen_laws.specs.Measured.{measured}
use Rattle.gen_laws.proofs.WholeBundle.{text-spells}

-- the generated text spells a bundle, so it isn't refused
pub never-refused : (n : ℕ) → 0 < n → n ≤ 64 → (line : ℕ) (reason : Reason) → Refuses (generated n) line reason → ⊥
never-refused n some few line reason refused = never_both (generated n) (measured n) line reason (text-spells n some few) refused
