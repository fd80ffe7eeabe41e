-- The least and the greatest of the numbers that pass.
use Rattle.std.proofs.Common.{◌≡◌, ℕ, ◌≤◌, refl, sym, ◌∙◌, ap, subst, arith, ◌⊎◌, inl, inr, List, [], ◌∷◌, map, Bool, true, false, cond, min, max, Some}
use Rattle.std.specs.List.{filter, reduce, fold, AllByRecursion}
use Rattle.std.proofs.lemmas.Bool.{cases_Bool, cond-true, cond-false, true≢false}

-- the number is one of them
abbrev pub IsIn : ℕ → List ℕ → Type 0
IsIn d [] = ⊥
IsIn d (x ∷ xs) = (x ≡ d) ⊎ IsIn d xs

-- a choice of two numbers goes for those that a relation prefers
pub record Prefers (pick : ℕ → ℕ → ℕ) (R : ℕ → ℕ → Type 0) : Type 0 where
  pub one : (a b : ℕ) → (pick a b ≡ a) ⊎ (pick a b ≡ b)
  pub keeps : (d a b : ℕ) → R d a → R d b → R d (pick a b)
  pub left : (d b : ℕ) → R d b → pick d b ≡ d
  pub right : (d a : ℕ) → R d a → pick a d ≡ d
  pub first : (a b : ℕ) → R (pick a b) a
  pub second : (a b : ℕ) → R (pick a b) b
  pub chain : (a b e : ℕ) → R a b → R b e → R a e
  pub itself : (a : ℕ) → R a a

pub min_prefers : Prefers min (λ a b. a ≤ b)
min_prefers = record {
  one = λ a b. grind arith;
  keeps = λ d a b h k. omega arith;
  left = λ d b h. omega arith;
  right = λ d a h. omega arith;
  first = λ a b. omega arith;
  second = λ a b. omega arith;
  chain = λ a b e h k. omega arith;
  itself = λ a. omega arith;
}

pub max_prefers : Prefers max (λ a b. b ≤ a)
max_prefers = record {
  one = λ a b. grind arith;
  keeps = λ d a b h k. omega arith;
  left = λ d b h. omega arith;
  right = λ d a h. omega arith;
  first = λ a b. omega arith;
  second = λ a b. omega arith;
  chain = λ a b e h k. omega arith;
  itself = λ a. omega arith;
}

-- the number that is there and is preferred to each is what the fold gives
pub fold_is : {pick : ℕ → ℕ → ℕ} {R : ℕ → ℕ → Type 0} (law : Prefers pick R) (a d : ℕ) (xs : List ℕ) → R d a → AllByRecursion (R d) xs → ((a ≡ d) ⊎ IsIn d xs) → fold pick a xs ≡ d
fold_is law a d [] first each (inl same) = same
fold_is law a d [] first each (inr within) = absurd within
fold_is {pick} law a d (x ∷ xs) first each (inl same) =
    fold_is law (pick a x) d xs (law.keeps d a x first each.0) each.1 (inl (ap (λ n. pick n x) same ∙ law.left d x each.0))
fold_is {pick} law a d (x ∷ xs) first each (inr (inl same)) =
    fold_is law (pick a x) d xs (law.keeps d a x first each.0) each.1 (inl (ap (λ n. pick a n) same ∙ law.right d a first))
fold_is {pick} law a d (x ∷ xs) first each (inr (inr within)) =
    fold_is law (pick a x) d xs (law.keeps d a x first each.0) each.1 (inr within)

-- what holds of all numbers holds of what the fold gives
pub fold_keeps : {pick : ℕ → ℕ → ℕ} {R : ℕ → ℕ → Type 0} (law : Prefers pick R) (Q : ℕ → Type 0) (a : ℕ) (xs : List ℕ) → Q a → AllByRecursion Q xs → Q (fold pick a xs)
fold_keeps law Q a [] holds each = holds
fold_keeps {pick} law Q a (x ∷ xs) holds each = elim (law.one a x) [
  | inl same ↦ fold_keeps law Q (pick a x) xs (subst Q (sym same) holds) each.1
  | inr same ↦ fold_keeps law Q (pick a x) xs (subst Q (sym same) each.0) each.1
]

-- it is preferred to each
pub fold_first : {pick : ℕ → ℕ → ℕ} {R : ℕ → ℕ → Type 0} (law : Prefers pick R) (a : ℕ) (xs : List ℕ) → R (fold pick a xs) a
fold_first law a [] = law.itself a
fold_first {pick} law a (x ∷ xs) = law.chain (fold pick (pick a x) xs) (pick a x) a (fold_first law (pick a x) xs) (law.first a x)

pub fold_each : {pick : ℕ → ℕ → ℕ} {R : ℕ → ℕ → Type 0} (law : Prefers pick R) (a e : ℕ) (xs : List ℕ) → IsIn e xs → R (fold pick a xs) e
fold_each law a e [] within = absurd within
fold_each {pick} {R} law a e (x ∷ xs) (inl same) =
    subst (R (fold pick (pick a x) xs)) same (law.chain (fold pick (pick a x) xs) (pick a x) x (fold_first law (pick a x) xs) (law.second a x))
fold_each {pick} law a e (x ∷ xs) (inr within) = fold_each law (pick a x) e xs within

-- ---- filters

pub filter_one : (p : ℕ → Bool) (x : ℕ) (xs : List ℕ) → p x ≡ true → filter p (x ∷ xs) ≡ x ∷ filter p xs
filter_one p x xs passes = cond-true (p x) (x ∷ filter p xs) (filter p xs) passes

pub filter_not : (p : ℕ → Bool) (x : ℕ) (xs : List ℕ) → p x ≡ false → filter p (x ∷ xs) ≡ filter p xs
filter_not p x xs fails = cond-false (p x) (x ∷ filter p xs) (filter p xs) fails

-- what passes stays
IsIn-filter : (p : ℕ → Bool) (d : ℕ) (xs : List ℕ) → IsIn d xs → p d ≡ true → IsIn d (filter p xs)
IsIn-filter p d [] within passes = within
IsIn-filter p d (x ∷ xs) within passes = elim (cases_Bool (p x)) [
  | inl good ↦ subst (IsIn d) (sym (filter_one p x xs good)) (elim within [ inl same ↦ inl same | inr there ↦ inr (IsIn-filter p d xs there passes) ])
  | inr bad ↦ subst (IsIn d) (sym (filter_not p x xs bad)) (elim within [ inl same ↦ absurd (true≢false (sym (ap p same ∙ passes) ∙ bad)) | inr there ↦ IsIn-filter p d xs there passes ])
]

-- what holds of each that passes holds of each that stays
pub each-filter : (p : ℕ → Bool) (Q : ℕ → Type 0) (xs : List ℕ) → AllByRecursion (λ x. p x ≡ true → Q x) xs → AllByRecursion Q (filter p xs)
each-filter p Q [] each = tt
each-filter p Q (x ∷ xs) each = elim (cases_Bool (p x)) [
  | inl good ↦ subst (AllByRecursion Q) (sym (filter_one p x xs good)) (each.0 good, each-filter p Q xs each.1)
  | inr bad ↦ subst (AllByRecursion Q) (sym (filter_not p x xs bad)) (each-filter p Q xs each.1)
]

-- each that stays passes
each-filter_passes : (p : ℕ → Bool) (Q : ℕ → Type 0) (xs : List ℕ) → AllByRecursion Q xs → AllByRecursion (λ x. (p x ≡ true) × Q x) (filter p xs)
each-filter_passes p Q xs each = each-filter p (λ x. (p x ≡ true) × Q x) xs (with_test xs each)
  where
    with_test : (ys : List ℕ) → AllByRecursion Q ys → AllByRecursion (λ x. p x ≡ true → (p x ≡ true) × Q x) ys
    with_test [] each' = tt
    with_test (y ∷ ys) each' = ((λ good. (good, each'.0)), with_test ys each'.1)

-- where none passes, none stays
pub filter_none : (p : ℕ → Bool) (xs : List ℕ) → AllByRecursion (λ x. p x ≡ false) xs → filter p xs ≡ []
filter_none p [] each = refl
filter_none p (x ∷ xs) each = filter_not p x xs each.0 ∙ filter_none p xs each.1

-- two tests that agree at each keep the same
pub filter_same : (p q : ℕ → Bool) (xs : List ℕ) → AllByRecursion (λ x. p x ≡ q x) xs → filter p xs ≡ filter q xs
filter_same p q [] each = refl
filter_same p q (x ∷ xs) each = ap (λ b. cond b (x ∷ filter p xs) (filter p xs)) each.0 ∙ ap (λ ys. cond (q x) (x ∷ ys) ys) (filter_same p q xs each.1)

-- a filter of images is the images of a filter
pub filter-map : (p : ℕ → Bool) (f : ℕ → ℕ) (xs : List ℕ) → filter p (map f xs) ≡ map f (filter (λ x. p (f x)) xs)
filter-map p f [] = refl
filter-map p f (x ∷ xs) = elim (cases_Bool (p (f x))) [
  | inl good ↦ filter_one p (f x) (map f xs) good ∙ ap (λ ys. f x ∷ ys) (filter-map p f xs) ∙ sym (ap (map f) (filter_one (λ y. p (f y)) x xs good))
  | inr bad ↦ filter_not p (f x) (map f xs) bad ∙ filter-map p f xs ∙ sym (ap (map f) (filter_not (λ y. p (f y)) x xs bad))
]

-- ---- the chosen one

-- it passes, is preferred to each that passes, and has what all numbers have
pub record Chosen (R : ℕ → ℕ → Type 0) (p : ℕ → Bool) (Q : ℕ → Type 0) (e r : ℕ) : Type 0 where
  pub passes : p r ≡ true
  pub holds : Q r
  pub preferred : R r e

-- where one passes, there is a chosen one
pub chosen : {pick : ℕ → ℕ → ℕ} {R : ℕ → ℕ → Type 0} (law : Prefers pick R) (p : ℕ → Bool) (Q : ℕ → Type 0) (xs : List ℕ) (e : ℕ) → AllByRecursion Q xs → IsIn e xs → p e ≡ true → (r : ℕ) × (reduce pick (filter p xs) ≡ Some r) × Chosen R p Q e r
chosen {pick} {R} law p Q xs e each within passes = from (filter p xs) (each-filter_passes p Q xs each) (IsIn-filter p e xs within passes)
  where
    from : (ys : List ℕ) → AllByRecursion (λ x. (p x ≡ true) × Q x) ys → IsIn e ys → (r : ℕ) × (reduce pick ys ≡ Some r) × Chosen R p Q e r
    from [] each' within' = absurd within'
    from (y ∷ ys) each' within' =
        let both = fold_keeps law (λ x. (p x ≡ true) × Q x) y ys each'.0 each'.1 in (
          fold pick y ys,
          refl,
          record {
            passes = both.0;
            holds = both.1;
            preferred = elim within' [
              | inl same ↦ subst (R (fold pick y ys)) same (fold_first law y ys)
              | inr there ↦ fold_each law y e ys there
            ];
          },
        )

-- the one that passes and is preferred to each that passes is the chosen one
pub reduce_is : {pick : ℕ → ℕ → ℕ} {R : ℕ → ℕ → Type 0} (law : Prefers pick R) (p : ℕ → Bool) (xs : List ℕ) (d : ℕ) → IsIn d xs → p d ≡ true → AllByRecursion (λ e. p e ≡ true → R d e) xs → reduce pick (filter p xs) ≡ Some d
reduce_is {pick} {R} law p xs d within passes each = from (filter p xs) (each-filter p (R d) xs each) (IsIn-filter p d xs within passes)
  where
    from : (ys : List ℕ) → AllByRecursion (R d) ys → IsIn d ys → reduce pick ys ≡ Some d
    from [] each' within' = absurd within'
    from (y ∷ ys) each' within' = ap Some (fold_is law y d ys each'.0 each'.1 within')
