use Rattle.std.proofs.Common.{List, ℕ, subst, ◌∙◌}
use Rattle.bundle_text.specs.declared.fault.BundleFault.TheVariants.{Refused}
use Rattle.bundle_text.specs.Faults.{Tells}
use Rattle.drv_scripts.specs.Verdict.{Refuses}
use Rattle.clk_run.proofs.MeasuredRuns.{never-refused}
use Rattle.clk_run.proofs.taking.take_generated.Goals as goal

pub unreachable-requires : goal.unreachable-requires
unreachable-requires c =
    let line = c.in-Err-Refused.field-0-0 in
    let reason = c.in-Err-Refused.field-0-1 in
    never-refused c.args.drivers c.requires.some c.requires.few line reason
    (subst (λ (bytes : List ℕ). Tells (Refuses bytes) (Refused line reason)) (c.as_bytes.ensures.value ∙ c.in_ok-text.ensures.text)
    (subst (Tells (Refuses c.as_bytes.result.now)) c.in-Err-Refused.field-0-is c.in-Err-Refused.ensures.refused))
