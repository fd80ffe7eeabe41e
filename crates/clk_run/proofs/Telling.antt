-- What a run knows of its bank: cores that know the same.
use Rattle.std.proofs.Common.{◌≡◌, ℕ, Bool, List, Option, ap, ◌∙◌}
use Rattle.std.specs.Prelude.{is_some}
use Rattle.clk_machine.specs.Run.{Run}
use Rattle.core_parts.specs.declared.behind.Behind.{Behind}
use Rattle.core_parts.specs.Window.{behind_of}
use Rattle.reg_bank.specs.declared.pll_lock.PllLock.{PllLock}
use Rattle.clk_run.specs.Runs.{Telling, telling, told_by}

-- cores that know the same of their banks
pub same_telling : (a b : Run) → a.told ≡ b.told → a.behind ≡ b.behind → told_by a ≡ told_by b
same_telling a b told behind =
    ap (λ (t : Bool). let x : Telling = record { told = t; delays = a.behind.delays } in x) told
    ∙ ap (λ (k : Behind). let x : Telling = record { told = b.told; delays = k.delays } in x) behind

-- what is known of a bank that was opened is what it tells
pub telling_from : (told : Bool) (k : Behind) (contents : Option (List ℕ)) (lock : ℕ → Option PllLock) (n : ℕ) → told ≡ is_some contents → k ≡ behind_of n contents lock
    → (let x : Telling = record { told = told; delays = k.delays } in x) ≡ telling contents lock
telling_from told k contents lock n tells behind =
    ap (λ (t : Bool). let x : Telling = record { told = t; delays = k.delays } in x) tells
    ∙ ap (λ (k' : Behind). let x : Telling = record { told = is_some contents; delays = k'.delays } in x) behind
