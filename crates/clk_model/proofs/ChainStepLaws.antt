-- Laws on the steps of a chain that pass a test, and on their clocks.
use Rattle.std.proofs.Common.{◌≡◌, ℕ, Bool, true, false, ◌||◌, cond, List, [], ◌∷◌, map, refl, ap, ◌∙◌, inl, inr}
use Rattle.std.specs.Prelude.{filter}
use Rattle.std.specs.List.{AllByRecursion, list_any}
use Rattle.clk_model.specs.Lists.{is_in, none_twice}
use Rattle.clk_model.specs.State.{ChainStep}
use Rattle.clk_model.specs.Laws.Plans.{clocks_in}
use Rattle.clk_model.proofs.Members.{is_in_head, is_in_tail, is_in_cases, or_left, or_right, not_either}
use Rattle.clk_model.proofs.OnceLaws.{once_head, once_cons}
use Rattle.std.proofs.lemmas.Bool.{both_ways}

-- whether a step of a chain passes
abbrev pub steps_that : (ChainStep → Bool) → List ChainStep → List ℕ
steps_that test ks = map (λ k. k.clock) (filter test ks)

step_in_here : (test : ChainStep → Bool) (x : ℕ) (k : ChainStep) (ks : List ChainStep) (t : Bool) → test k ≡ t
    → (is_in x (steps_that test ks) ≡ true → (l : ChainStep) × (l.clock ≡ x) × (test l ≡ true) × ((P : ChainStep → Type 0) → AllByRecursion P ks → P l))
    → is_in x (map (λ l. l.clock) (cond t (k ∷ filter test ks) (filter test ks))) ≡ true
    → (l : ChainStep) × (l.clock ≡ x) × (test l ≡ true) × ((P : ChainStep → Type 0) → AllByRecursion P (k ∷ ks) → P l)
step_in_here test x k ks false e rest m = let found = rest m in (found.0, found.1, found.2, (λ P each. found.3 P each.1))
step_in_here test x k ks true e rest m =
    elim (is_in_cases x k.clock (steps_that test ks) m) [
      | inl same ↦ (k, same, e, (λ P each. each.0))
      | inr later ↦ let found = rest later in (found.0, found.1, found.2, (λ P each. found.3 P each.1))
    ]

-- a clock of such steps has such a step, of which each fact on all steps holds
pub step_in : (test : ChainStep → Bool) (x : ℕ) (ks : List ChainStep) → is_in x (steps_that test ks) ≡ true
    → (l : ChainStep) × (l.clock ≡ x) × (test l ≡ true) × ((P : ChainStep → Type 0) → AllByRecursion P ks → P l)
step_in test x [] m = absurd cc
step_in test x (k ∷ ks) m = step_in_here test x k ks (test k) refl (step_in test x ks) m

-- a clock of a chain has its step
pub chain_in : (x : ℕ) (ks : List ChainStep) → is_in x (clocks_in ks) ≡ true → (l : ChainStep) × (l.clock ≡ x) × ((P : ChainStep → Type 0) → AllByRecursion P ks → P l)
chain_in x [] m = absurd cc
chain_in x (k ∷ ks) m =
    elim (is_in_cases x k.clock (clocks_in ks) m) [
      | inl same ↦ (k, same, (λ P each. each.0))
      | inr later ↦ let found = chain_in x ks later in (found.0, found.1, (λ P each. found.2 P each.1))
    ]

any_step_here : (test : ChainStep → Bool) (k : ChainStep) (ks : List ChainStep) (t : Bool) → test k ≡ t
    → (list_any test ks ≡ true → (l : ChainStep) × (test l ≡ true) × ((P : ChainStep → Type 0) → AllByRecursion P ks → P l))
    → (t || list_any test ks) ≡ true → (l : ChainStep) × (test l ≡ true) × ((P : ChainStep → Type 0) → AllByRecursion P (k ∷ ks) → P l)
any_step_here test k ks true e rest any = (k, e, (λ P each. each.0))
any_step_here test k ks false e rest any = let found = rest any in (found.0, found.1, (λ P each. found.2 P each.1))

-- where some step passes there is one that does
pub any_step : (test : ChainStep → Bool) (ks : List ChainStep) → list_any test ks ≡ true → (l : ChainStep) × (test l ≡ true) × ((P : ChainStep → Type 0) → AllByRecursion P ks → P l)
any_step test [] any = absurd cc
any_step test (k ∷ ks) any = any_step_here test k ks (test k) refl (any_step test ks) any

-- where no step passes each fails
pub no_step : (test : ChainStep → Bool) (ks : List ChainStep) → list_any test ks ≡ false → AllByRecursion (λ k. test k ≡ false) ks
no_step test [] none = tt
no_step test (k ∷ ks) none = let parts = not_either (test k) (list_any test ks) none in (parts.0, no_step test ks parts.1)

pub AllSteps-more : (P Q : ChainStep → Type 0) (ks : List ChainStep) → ((k : ChainStep) → P k → Q k) → AllByRecursion P ks → AllByRecursion Q ks
AllSteps-more P Q [] more each = tt
AllSteps-more P Q (k ∷ ks) more each = (more k each.0, AllSteps-more P Q ks more each.1)

-- each step that passes makes some pass
pub passing_any : (test : ChainStep → Bool) (ks : List ChainStep) → AllByRecursion (λ k. test k ≡ true → list_any test ks ≡ true) ks
passing_any test [] = tt
passing_any test (k ∷ ks) = (
  (λ e. or_left (test k) (list_any test ks) e),
  AllSteps-more (λ l. test l ≡ true → list_any test ks ≡ true) (λ l. test l ≡ true → (test k || list_any test ks) ≡ true) ks
      (λ l more e. or_right (test k) (list_any test ks) (more e)) (passing_any test ks),
)

steps_more : (test : ChainStep → Bool) (x : ℕ) (k : ChainStep) (ks : List ChainStep) (t : Bool) → is_in x (steps_that test ks) ≡ true
    → is_in x (map (λ l. l.clock) (cond t (k ∷ filter test ks) (filter test ks))) ≡ true
steps_more test x k ks true m = is_in_tail x k.clock (steps_that test ks) m
steps_more test x k ks false m = m

steps_first : (test : ChainStep → Bool) (k : ChainStep) (ks : List ChainStep) (t : Bool) → t ≡ true
    → is_in k.clock (map (λ l. l.clock) (cond t (k ∷ filter test ks) (filter test ks))) ≡ true
steps_first test k ks true e = is_in_head k.clock (steps_that test ks)
steps_first test k ks false e = absurd cc

-- the clock of each step that passes is among those of such steps
pub passing_in : (test : ChainStep → Bool) (ks : List ChainStep) → AllByRecursion (λ k. test k ≡ true → is_in k.clock (steps_that test ks) ≡ true) ks
passing_in test [] = tt
passing_in test (k ∷ ks) = (
  (λ e. steps_first test k ks (test k) e),
  AllSteps-more (λ l. test l ≡ true → is_in l.clock (steps_that test ks) ≡ true) (λ l. test l ≡ true → is_in l.clock (steps_that test (k ∷ ks)) ≡ true) ks
      (λ l more e. steps_more test l.clock k ks (test k) (more e)) (passing_in test ks),
)

-- the clocks of such steps are clocks of the chain
steps_in_chain : (test : ChainStep → Bool) (x : ℕ) (ks : List ChainStep) → is_in x (steps_that test ks) ≡ true → is_in x (clocks_in ks) ≡ true
steps_in_chain test x [] m = m
steps_in_chain test x (k ∷ ks) m = one (test k) m (steps_in_chain test x ks) where
  one : (t : Bool) → is_in x (map (λ l. l.clock) (cond t (k ∷ filter test ks) (filter test ks))) ≡ true
      → (is_in x (steps_that test ks) ≡ true → is_in x (clocks_in ks) ≡ true) → is_in x (clocks_in (k ∷ ks)) ≡ true
  one false n rest = is_in_tail x k.clock (clocks_in ks) (rest n)
  one true n rest = elim (is_in_cases x k.clock (steps_that test ks) n) [
    | inl same ↦ ap (λ (z : ℕ). is_in x (z ∷ clocks_in ks)) same ∙ is_in_head x (clocks_in ks)
    | inr later ↦ is_in_tail x k.clock (clocks_in ks) (rest later)
  ]

pub once_steps : (test : ChainStep → Bool) (ks : List ChainStep) → none_twice (clocks_in ks) ≡ true → none_twice (steps_that test ks) ≡ true
once_steps test [] once = refl
once_steps test (k ∷ ks) once =
    let head = once_head k.clock (clocks_in ks) once in
    one (test k) (λ m. both_ways _ head.0 (steps_in_chain test k.clock ks m)) (once_steps test ks head.1) where
      one : (t : Bool) → (is_in k.clock (steps_that test ks) ≡ true → ⊥) → none_twice (steps_that test ks) ≡ true
          → none_twice (map (λ l. l.clock) (cond t (k ∷ filter test ks) (filter test ks))) ≡ true
      one true out rest = once_cons k.clock (steps_that test ks) out rest
      one false out rest = rest
