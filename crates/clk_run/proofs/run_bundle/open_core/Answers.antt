use Rattle.std.proofs.Common.{◌≡◌, ℕ, ◌≤◌, refl, subst, sym, length, List}
use Rattle.std.specs.Prelude.{Bool, IfOk}
use Rattle.clk_base.specs.Checked.{Checked}
use Rattle.clk_machine.specs.Run.{Run}
use Rattle.core_parts.specs.Window.{behind_of}
use Rattle.clk_model.specs.Begin.{most_credits}
use Rattle.clk_model.specs.Journal.{opening}
use Rattle.clk_model.specs.State.{State}
use Rattle.drv_scripts.specs.declared.bundle.Bundle.{Bundle}
use Rattle.clk_run.specs.Runs.{opening_of, credits_of}
use Rattle.clk_run.proofs.Readiness.{few_credits}
use Rattle.clk_run.proofs.run_bundle.open_core.Goals as goal

pub credits_of-credits-requires : goal.credits_of-credits-requires
credits_of-credits-requires g c = few_credits c.args.bundle.now c.requires.sound

pub create-requires-clause-credits : goal.create-requires-clause-credits
create-requires-clause-credits g c = subst (λ (n : ℕ). n ≤ most_credits) (sym c.credits_of-credits.ensures) (few_credits c.args.bundle.now c.requires.sound)

-- where the core begins
opens : (b : Bundle) (desc : Checked) (words : List ℕ) (ignore_unused : Bool) (credits : ℕ) → desc ≡ b.desc → words ≡ b.words → credits ≡ credits_of b
    → opening desc.defs words ignore_unused credits ≡ opening_of b ignore_unused
opens b desc words ignore_unused credits same these paid = rw (same, these, paid) refl

pub returns-clause-start : goal.returns-clause-start
returns-clause-start g c =
    subst (λ (s : State). IfOk c.create.result (λ (core : Run). core.start ≡ s))
    (opens c.args.bundle.now _ _ c.args.ignore_unused _ c.in_ok-desc.ensures c.as_slice-words.ensures c.credits_of-credits.ensures) c.create.ensures.start

pub returns-clause-behind : goal.returns-clause-behind
returns-clause-behind g c =
    subst (λ (words : List ℕ). IfOk c.create.result (λ (core : Run). core.behind ≡ behind_of (length words) (g.B.Bank.contents c.args.bank) (g.B.Bank.lock c.args.bank))) c.as_slice-words.ensures c.create.ensures.behind
