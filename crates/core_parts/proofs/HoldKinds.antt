-- Counts of which only the holders of one kind are written.
use Rattle.std.proofs.Common.{◌≡◌, ℕ, List, refl, sym, ap, ◌∙◌, length}
use Rattle.counts_core.specs.Counted.{CountState, AreCounts}
use Rattle.core_parts.specs.Holds.{own_of, with_own}
use Rattle.core_parts.specs.declared.holds.HoldKind.{HoldKind}
use Rattle.core_parts.specs.declared.holds.HoldKind.TheVariants.{Prepare, Enable, Exclusive}

-- they have the holders that were written
pub own_written : (kind : HoldKind) (k : CountState) (own : List ℕ) → own_of kind (with_own kind k own) ≡ own
own_written Prepare k own = refl
own_written Enable k own = refl
own_written Exclusive k own = refl

-- and the links that they had
pub links_stay : (kind : HoldKind) (k : CountState) (own : List ℕ) → (with_own kind k own).links ≡ k.links
links_stay Prepare k own = refl
links_stay Enable k own = refl
links_stay Exclusive k own = refl

-- counts are those with their own holders
pub own_itself : (kind : HoldKind) (k : CountState) → k ≡ with_own kind k (own_of kind k)
own_itself Prepare k = refl
own_itself Enable k = refl
own_itself Exclusive k = refl

written_last : (kind : HoldKind) (k : CountState) (own own' : List ℕ) → with_own kind (with_own kind k own) own' ≡ with_own kind k own'
written_last Prepare k own own' = refl
written_last Enable k own own' = refl
written_last Exclusive k own own' = refl

-- if only they were written so far, and are written once more, they alone were
pub own_only : (kind : HoldKind) (a b c : CountState) (own : List ℕ) → b ≡ with_own kind a (own_of kind b) → c ≡ with_own kind b own → c ≡ with_own kind a (own_of kind c)
own_only kind a b c own first second =
    second ∙ ap (λ (k : CountState). with_own kind k own) first ∙ written_last kind a (own_of kind b) own
    ∙ ap (with_own kind a) (sym (ap (own_of kind) second ∙ own_written kind b own))

-- each clock has a place in the list of each kind
pub own_lies : (kind : HoldKind) (k : CountState) → AreCounts k → length (own_of kind k) ≡ length k.links
own_lies Prepare k keeps = keeps.prepares
own_lies Enable k keeps = keeps.enables
own_lies Exclusive k keeps = keeps.exclusives
