use Rattle.std.proofs.Common.{◌≡◌, ℕ, ◌≤◌, List, Option, IfOk, refl, subst, sym}
use Rattle.std.specs.Prelude.{Bool}
use Rattle.clk_base.specs.Checked.{Checked}
use Rattle.clk_model.specs.Begin.{most_credits}
use Rattle.tier_lock.specs.Known.{first_known}
use Rattle.clk_framework.specs.declared.opened.Opened.{Opened}
use Rattle.clk_framework.specs.Opening.{opened_with}
use Rattle.drv_scripts.specs.declared.bundle.Bundle.{Bundle}
use Rattle.reg_bank.specs.declared.pll_lock.PllLock.{PllLock}
use Rattle.clk_run.specs.Cores.{opened_for}
use Rattle.clk_run.specs.Runs.{credits_of}
use Rattle.clk_run.proofs.Readiness.{few_credits}
use Rattle.clk_run.proofs.side_by_side.open_framework.Goals as goal

pub credits_of-credits-requires : goal.credits_of-credits-requires
credits_of-credits-requires g c = few_credits c.args.bundle.now c.requires.sound

pub create-requires-clause-credits : goal.create-requires-clause-credits
create-requires-clause-credits g c = subst (λ (n : ℕ). n ≤ most_credits) (sym c.credits_of-credits.ensures) (few_credits c.args.bundle.now c.requires.sound)

-- what it begins with
opens : (b : Bundle) (desc : Checked) (words : List ℕ) (ignore_unused : Bool) (credits : ℕ) (contents : Option (List ℕ)) (lock : ℕ → Option PllLock) → desc ≡ b.desc → words ≡ b.words → credits ≡ credits_of b
    → opened_with desc.defs words ignore_unused credits contents lock ≡ opened_for b ignore_unused contents lock
opens b desc words ignore_unused credits contents lock same these paid = rw (same, these, paid) refl

pub returns : goal.returns
returns g c =
    let b = c.args.bundle.now in
    let contents = g.B.Bank.contents c.args.bank in
    let lock = g.B.Bank.lock c.args.bank in
    subst (λ (n : ℕ). IfOk c.create.result (λ made. made.1 ≡ first_known made.0.lock.table (opened_for b c.args.ignore_unused contents lock) n)) c.credits_of-credits.ensures
    (subst (λ (o : Opened). IfOk c.create.result (λ made. made.1 ≡ first_known made.0.lock.table o c.credits_of-credits.result))
    (opens b _ _ c.args.ignore_unused _ contents lock c.in_ok-desc.ensures c.as_slice-words.ensures c.credits_of-credits.ensures) c.create.ensures)
