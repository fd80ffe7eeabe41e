-- Lines of possible parents: what ends within so many levels, and that it can't come back.
use Rattle.std.proofs.Common.{◌≡◌, ℕ, zero, suc, Bool, true, false, ◌||◌, List, [], ◌∷◌, subst, inl, inr}
use Rattle.std.specs.Prelude.{◌==◌}
use Rattle.std.specs.List.{list_all, list_any}
use Rattle.std.proofs.lemmas.Bool.{false≢true, and_parts, and_from, or_cases, cases_Bool, both_ways, eqb-true}
use Rattle.clk_base.specs.Levels.{ends_within, reaches_within}

-- where all elements pass one test and some element another, an element passes both
pub both_pass : (every some : ℕ → Bool) (xs : List ℕ) → list_all every xs ≡ true → list_any some xs ≡ true → (x : ℕ) × (every x ≡ true) × (some x ≡ true)
both_pass every some [] all any = absurd (false≢true any)
both_pass every some (x ∷ xs) all any =
    let parts = and_parts _ _ all in
    elim (or_cases (some x) (list_any some xs) any) [
      | inl here ↦ (x, parts.0, here)
      | inr later ↦ both_pass every some xs parts.1 later
    ]

-- what all elements pass, an element of the list passes
pub passes_among : (test : ℕ → Bool) (xs : List ℕ) (p : ℕ) → list_all test xs ≡ true → list_any (λ q. q == p) xs ≡ true → test p ≡ true
passes_among test xs p all any =
    let found = both_pass test (λ q. q == p) xs all any in
    let P : ℕ → Type 0 = λ n. test n ≡ true in
    subst P (eqb-true found.0 p found.2) found.1

list_all-weaker : (f g : ℕ → Bool) → ((x : ℕ) → f x ≡ true → g x ≡ true) → (xs : List ℕ) → list_all f xs ≡ true → list_all g xs ≡ true
list_all-weaker f g weaker [] all = all
list_all-weaker f g weaker (x ∷ xs) all =
    let parts = and_parts _ _ all in
    and_from _ _ (weaker x parts.0) (list_all-weaker f g weaker xs parts.1)

-- a line from a possible parent has one clock less
pub ends_within-parent : (up : ℕ → List ℕ) (n c p : ℕ) → ends_within up (suc n) c ≡ true → list_any (λ q. q == p) (up c) ≡ true → ends_within up n p ≡ true
ends_within-parent up n c p ends parent = passes_among (ends_within up n) (up c) p ends parent

-- more levels are enough too
pub ends_within-more : (up : ℕ → List ℕ) (n c : ℕ) → ends_within up n c ≡ true → ends_within up (suc n) c ≡ true
ends_within-more up zero c ends = absurd (false≢true ends)
ends_within-more up (suc n) c ends = list_all-weaker (ends_within up n) (ends_within up (suc n)) (ends_within-more up n) (up c) ends

-- a line from an ancestor has fewer clocks
pub ends_within-ancestor : (up : ℕ → List ℕ) (steps ancestor n c : ℕ) → ends_within up (suc n) c ≡ true → reaches_within up steps ancestor c ≡ true → ends_within up n ancestor ≡ true
ends_within-ancestor up zero ancestor n c ends leads = absurd (false≢true leads)
ends_within-ancestor up (suc steps) ancestor zero c ends leads =
    let p = both_pass (ends_within up zero) (λ q. (q == ancestor) || reaches_within up steps ancestor q) (up c) ends leads in
    absurd (false≢true p.1)
ends_within-ancestor up (suc steps) ancestor (suc n) c ends leads =
    let p = both_pass (ends_within up (suc n)) (λ q. (q == ancestor) || reaches_within up steps ancestor q) (up c) ends leads in
    let P : ℕ → Type 0 = λ q. ends_within up (suc n) q ≡ true in
    elim (or_cases _ _ p.2) [
      | inl same ↦ subst P (eqb-true p.0 ancestor same) p.1
      | inr above ↦ ends_within-more up n ancestor (ends_within-ancestor up steps ancestor n p.0 p.1 above)
    ]

-- so no line leads from a clock back to it
pub not_own_ancestor : (up : ℕ → List ℕ) (n c steps : ℕ) → ends_within up n c ≡ true → reaches_within up steps c c ≡ false
not_own_ancestor up zero c steps ends = absurd (false≢true ends)
not_own_ancestor up (suc n) c steps ends =
    elim (cases_Bool (reaches_within up steps c c)) [
      | inl again ↦ absurd (both_ways _ (not_own_ancestor up n c steps (ends_within-ancestor up steps c n c ends again)) again)
      | inr never ↦ never
    ]
