-- Laws on what lists of numbers have, how many there are, and that no number stands twice.
use Rattle.std.proofs.Common.{◌≡◌, ◌≢◌, ℕ, ◌<◌, ◌≤◌, Bool, true, false, not, ◌&&◌, ◌||◌, cond, List, [], ◌∷◌, ◌++◌, refl, sym, ap, ◌∙◌, ◌⊎◌, inl, inr, arith, length, nat_eq, eqb}
use Rattle.std.specs.Prelude.{◌==◌, flat_map, filter}
use Rattle.std.specs.List.{list_any, AllByRecursion, IsDistinct}
use Rattle.std.proofs.lemmas.Bool.{both_ways, or_parts}
use Rattle.std.proofs.lemmas.Bool.Decides.{nat_tests}
use Rattle.std.proofs.lemmas.List.Folds.{list_any-append}
use Rattle.std.proofs.lemmas.Map.Steps.{length-le_from_distinct_below}
use Rattle.clk_model.specs.Lists.{is_in, none_twice, without, to_front}
use Rattle.clk_model.proofs.Members.{or_cases, or_left, or_right, same_from_test, both_left, both_right, is_in_head, is_in_tail, is_in_cases}

-- ---- what lists have

pub is_in-append : (x : ℕ) (xs ys : List ℕ) → is_in x (xs ++ ys) ≡ (is_in x xs || is_in x ys)
is_in-append x xs ys = list_any-append (λ z. z == x) xs ys

pub in_append : (x : ℕ) (xs ys : List ℕ) → is_in x (xs ++ ys) ≡ true → (is_in x xs ≡ true) ⊎ (is_in x ys ≡ true)
in_append x xs ys m = or_cases (is_in x xs) (is_in x ys) (sym (is_in-append x xs ys) ∙ m)

in_kept : (x y : ℕ) (kept xs : List ℕ) (t : Bool) → (is_in x kept ≡ true → is_in x xs ≡ true) → is_in x (cond t (y ∷ kept) kept) ≡ true → is_in x (y ∷ xs) ≡ true
in_kept x y kept xs false rest m = is_in_tail x y xs (rest m)
in_kept x y kept xs true rest m =
    elim (is_in_cases x y kept m) [
      | inl e ↦ ap (λ (z : ℕ). is_in x (z ∷ xs)) e ∙ is_in_head x xs
      | inr r ↦ is_in_tail x y xs (rest r)
    ]

-- what a filter leaves of a list is in the list
pub is_in-filter : (test : ℕ → Bool) (x : ℕ) (xs : List ℕ) → is_in x (filter test xs) ≡ true → is_in x xs ≡ true
is_in-filter test x [] m = m
is_in-filter test x (y ∷ ys) m = in_kept x y (filter test ys) ys (test y) (is_in-filter test x ys) m

passes_here : (test : ℕ → Bool) (x y : ℕ) (kept : List ℕ) (t : Bool) → test y ≡ t → (is_in x kept ≡ true → test x ≡ true)
    → is_in x (cond t (y ∷ kept) kept) ≡ true → test x ≡ true
passes_here test x y kept false e rest m = rest m
passes_here test x y kept true e rest m =
    elim (is_in_cases x y kept m) [
      | inl same ↦ ap test (sym same) ∙ e
      | inr later ↦ rest later
    ]

-- what a filter leaves passes
pub filter_passes : (test : ℕ → Bool) (x : ℕ) (xs : List ℕ) → is_in x (filter test xs) ≡ true → test x ≡ true
filter_passes test x [] m = absurd cc
filter_passes test x (y ∷ xs) m = passes_here test x y (filter test xs) (test y) refl (filter_passes test x xs) m

stays_here : (test : ℕ → Bool) (x y : ℕ) (xs : List ℕ) (t : Bool) → test y ≡ t → test x ≡ true → (is_in x xs ≡ true → is_in x (filter test xs) ≡ true)
    → is_in x (y ∷ xs) ≡ true → is_in x (cond t (y ∷ filter test xs) (filter test xs)) ≡ true
stays_here test x y xs true e pass rest m =
    elim (is_in_cases x y xs m) [
      | inl same ↦ ap (λ (z : ℕ). is_in x (z ∷ filter test xs)) same ∙ is_in_head x (filter test xs)
      | inr later ↦ is_in_tail x y (filter test xs) (rest later)
    ]
stays_here test x y xs false e pass rest m =
    elim (is_in_cases x y xs m) [
      | inl same ↦ let fails : test x ≡ false = ap test (sym same) ∙ e in absurd cc
      | inr later ↦ rest later
    ]

-- what is in a list and passes stays in its filter
pub filter_keeps : (test : ℕ → Bool) (x : ℕ) (xs : List ℕ) → test x ≡ true → is_in x xs ≡ true → is_in x (filter test xs) ≡ true
filter_keeps test x [] pass m = m
filter_keeps test x (y ∷ xs) pass m = stays_here test x y xs (test y) refl pass (filter_keeps test x xs pass) m

pub in_flat_map : (f : ℕ → List ℕ) (x : ℕ) (ys : List ℕ) → is_in x (flat_map f ys) ≡ true → (y : ℕ) × (is_in y ys ≡ true) × (is_in x (f y) ≡ true)
in_flat_map f x [] m = absurd cc
in_flat_map f x (y ∷ ys) m =
    elim (in_append x (f y) (flat_map f ys) m) [
      | inl here ↦ (y, is_in_head y ys, here)
      | inr later ↦ let found = in_flat_map f x ys later in (found.0, is_in_tail found.0 y ys found.1, found.2)
    ]

pub flat_map_in : (f : ℕ → List ℕ) (x y : ℕ) (ys : List ℕ) → is_in y ys ≡ true → is_in x (f y) ≡ true → is_in x (flat_map f ys) ≡ true
flat_map_in f x y [] m n = absurd cc
flat_map_in f x y (z ∷ ys) m n =
    is_in-append x (f z) (flat_map f ys)
    ∙ elim (is_in_cases y z ys m) [
      | inl e ↦ or_left (is_in x (f z)) (is_in x (flat_map f ys)) (ap (λ (u : ℕ). is_in x (f u)) e ∙ n)
      | inr r ↦ or_right (is_in x (f z)) (is_in x (flat_map f ys)) (flat_map_in f x y ys r n)
    ]

-- another number than c is in the list without c where it was in the list
pub is_in-without : (x c : ℕ) (xs : List ℕ) → nat_eq c x ≡ false → is_in x (without (c ∷ []) xs) ≡ is_in x xs
is_in-without x c [] other = refl
is_in-without x c (y ∷ ys) other =
    elim (nat_eq c y) as (λ t. nat_eq c y ≡ t → is_in x (cond (not (t || false)) (y ∷ without (c ∷ []) ys) (without (c ∷ []) ys)) ≡ (nat_eq y x || is_in x ys)) [
      | true ↦ λ same.
          is_in-without x c ys other
          ∙ ap (λ (b : Bool). b || is_in x ys) (sym (ap (λ (n : ℕ). nat_eq n x) (sym (same_from_test c y same)) ∙ other))
      | false ↦ λ apart. ap (λ (b : Bool). nat_eq y x || b) (is_in-without x c ys other)
    ] refl

-- in front of a list is c, and behind it what was there
pub is_in-to_front : (x c : ℕ) (xs : List ℕ) → is_in x (to_front c xs) ≡ (nat_eq c x || is_in x xs)
is_in-to_front x c xs =
    elim (nat_eq c x) as (λ t. nat_eq c x ≡ t → (t || is_in x (without (c ∷ []) xs)) ≡ (t || is_in x xs)) [
      | true ↦ λ same. refl
      | false ↦ λ other. is_in-without x c xs other
    ] refl

-- c is not in the list without c
pub not_in-without : (c : ℕ) (xs : List ℕ) → is_in c (without (c ∷ []) xs) ≡ false
not_in-without c [] = refl
not_in-without c (y ∷ ys) =
    elim (nat_eq c y) as (λ t. nat_eq c y ≡ t → is_in c (cond (not (t || false)) (y ∷ without (c ∷ []) ys) (without (c ∷ []) ys)) ≡ false) [
      | true ↦ λ same. not_in-without c ys
      | false ↦ λ other. ap (λ (b : Bool). b || is_in c (without (c ∷ []) ys)) (turned c y other) ∙ not_in-without c ys
    ] refl where
      turned : (a b : ℕ) → nat_eq a b ≡ false → nat_eq b a ≡ false
      turned a b h = grind (arith, nat_tests)

-- ---- no number twice

-- the first of numbers of which none stands twice isn't among the others
pub once_head : (x : ℕ) (xs : List ℕ) → none_twice (x ∷ xs) ≡ true → (is_in x xs ≡ false) × (none_twice xs ≡ true)
once_head x xs once = (not_true (is_in x xs) (both_left (not (is_in x xs)) (none_twice xs) once), both_right (not (is_in x xs)) (none_twice xs) once) where
  not_true : (t : Bool) → not t ≡ true → t ≡ false
  not_true true e = absurd cc
  not_true false e = refl

pub once_cons : (c : ℕ) (cs : List ℕ) → (is_in c cs ≡ true → ⊥) → none_twice cs ≡ true → none_twice (c ∷ cs) ≡ true
once_cons c cs out once = both (is_in c cs) out where
  both : (t : Bool) → (t ≡ true → ⊥) → (not t && none_twice cs) ≡ true
  both true out_ = absurd (out_ refl)
  both false out_ = once

-- two lists have nothing in common
abbrev pub AreApart : List ℕ → List ℕ → Type 0
AreApart xs ys = (x : ℕ) → is_in x xs ≡ true → is_in x ys ≡ true → ⊥

pub once_append : (xs ys : List ℕ) → none_twice xs ≡ true → none_twice ys ≡ true → AreApart xs ys → none_twice (xs ++ ys) ≡ true
once_append [] ys once once' apart = once'
once_append (x ∷ xs) ys once once' apart =
    let head = once_head x xs once in
    once_cons x (xs ++ ys)
    (λ m. elim (in_append x xs ys m) [ inl first ↦ both_ways _ head.0 first | inr second ↦ apart x (is_in_head x xs) second ])
    (once_append xs ys head.1 once' (λ z m n. apart z (is_in_tail z x xs m) n))

pub once_flat_map : (f : ℕ → List ℕ) (ys : List ℕ) → none_twice ys ≡ true → ((y : ℕ) → is_in y ys ≡ true → none_twice (f y) ≡ true)
    → ((y z : ℕ) → is_in y ys ≡ true → is_in z ys ≡ true → y ≢ z → AreApart (f y) (f z)) → none_twice (flat_map f ys) ≡ true
once_flat_map f [] once each apart = refl
once_flat_map f (y ∷ ys) once each apart =
    let head = once_head y ys once in
    once_append (f y) (flat_map f ys) (each y (is_in_head y ys))
    (once_flat_map f ys head.1 (λ z m. each z (is_in_tail z y ys m)) (λ z u m n. apart z u (is_in_tail z y ys m) (is_in_tail u y ys n)))
    (λ x m n. let found = in_flat_map f x ys n in
    apart y found.0 (is_in_head y ys) (is_in_tail found.0 y ys found.1) (λ same. both_ways _ head.0 (ap (λ (u : ℕ). is_in u ys) same ∙ found.1)) x m found.2)

pub once_filter : (test : ℕ → Bool) (xs : List ℕ) → none_twice xs ≡ true → none_twice (filter test xs) ≡ true
once_filter test [] once = refl
once_filter test (x ∷ xs) once =
    let head = once_head x xs once in
    kept (test x) (filter test xs) (λ m. both_ways _ head.0 (is_in-filter test x xs m)) (once_filter test xs head.1) where
      kept : (t : Bool) (ys : List ℕ) → (is_in x ys ≡ true → ⊥) → none_twice ys ≡ true → none_twice (cond t (x ∷ ys) ys) ≡ true
      kept true ys out rest = once_cons x ys out rest
      kept false ys out rest = rest

pub once-without : (c : ℕ) (xs : List ℕ) → none_twice xs ≡ true → none_twice (without (c ∷ []) xs) ≡ true
once-without c xs once = once_filter (λ x. not (is_in x (c ∷ []))) xs once

-- with a number put in front, each still stands once
pub once-to_front : (c : ℕ) (xs : List ℕ) → none_twice xs ≡ true → none_twice (to_front c xs) ≡ true
once-to_front c xs once = once_cons c (without (c ∷ []) xs) (both_ways _ (not_in-without c xs)) (once-without c xs once)

-- ---- few numbers

-- a filter leaves no more
pub length-filter-le : (test : ℕ → Bool) (xs : List ℕ) → length (filter test xs) ≤ length xs
length-filter-le test [] = omega arith
length-filter-le test (x ∷ xs) = one (test x) (length-filter-le test xs) where
  one : (t : Bool) → length (filter test xs) ≤ length xs → length (cond t (x ∷ filter test xs) (filter test xs)) ≤ length (x ∷ xs)
  one true rest = omega arith
  one false rest = omega arith

pub turned : (a b : ℕ) → nat_eq a b ≡ nat_eq b a
turned a b = grind (arith, nat_tests)

is_in-any : (q : ℕ) (xs : List ℕ) → list_any (eqb q) xs ≡ is_in q xs
is_in-any q [] = refl
is_in-any q (x ∷ xs) = ap (λ (b : Bool). b || list_any (eqb q) xs) (turned q x) ∙ ap (λ (b : Bool). nat_eq x q || b) (is_in-any q xs)

all_other : (x : ℕ) (xs : List ℕ) → is_in x xs ≡ false → AllByRecursion (λ y. eqb x y ≡ false) xs
all_other x [] h = tt
all_other x (y ∷ ys) h = let apart = or_parts (nat_eq y x) (is_in x ys) h in (turned x y ∙ apart.0, all_other x ys apart.1)

distinct : (xs : List ℕ) → none_twice xs ≡ true → IsDistinct eqb xs
unfolding IsDistinct
distinct [] once = tt
distinct (x ∷ xs) once = let head = once_head x xs once in (all_other x xs head.0, distinct xs head.1)

-- numbers below n of which none stands twice are at most n
pub few_once : (xs : List ℕ) (n : ℕ) → none_twice xs ≡ true → ((q : ℕ) → is_in q xs ≡ true → q < n) → length xs ≤ n
few_once xs n once below = length-le_from_distinct_below xs n (distinct xs once) (λ q h. below q (sym (is_in-any q xs) ∙ h))
