-- Laws on whether a number is in a list.
use Rattle.std.proofs.Common.{◌≡◌, ℕ, zero, suc, ◌+◌, ◌<◌, ◌≤◌, ◌||◌, ◌&&◌, Bool, true, false, List, [], ◌∷◌, refl, sym, ap, ◌∙◌, ◌⊎◌, inl, inr, arith, nat_eq}
use Rattle.std.proofs.lemmas.Bool.Decides.{nat_tests}
use Rattle.std.specs.List.{list_any}
use Rattle.std.specs.Prelude.{reverse}
use Rattle.std.proofs.lemmas.List.Folds.{list_any-append}
use mathlib.Core.List.{reverse-cons}
use Rattle.clk_model.specs.Lists.{is_in, count_from}

-- one of two tests passes
pub or_cases : (a b : Bool) → (a || b) ≡ true → (a ≡ true) ⊎ (b ≡ true)
or_cases true b h = inl refl
or_cases false b h = inr h

pub or_left : (a b : Bool) → a ≡ true → (a || b) ≡ true
or_left true b h = refl
or_left false b h = cc

pub or_right : (a b : Bool) → b ≡ true → (a || b) ≡ true
or_right true b h = refl
or_right false b h = h

pub same_from_test : (a b : ℕ) → nat_eq a b ≡ true → a ≡ b
same_from_test a b h = grind (arith, nat_tests)

pub test_same : (a : ℕ) → nat_eq a a ≡ true
test_same a = grind (arith, nat_tests)

pub test_other : (a b : ℕ) → nat_eq a b ≡ false → a ≡ b → ⊥
test_other a b h e = grind (arith, nat_tests)

-- the first of a list is in it, and so is what is in the rest
pub is_in_head : (x : ℕ) (xs : List ℕ) → is_in x (x ∷ xs) ≡ true
is_in_head x xs = or_left (nat_eq x x) (is_in x xs) (test_same x)

pub is_in_tail : (x y : ℕ) (xs : List ℕ) → is_in x xs ≡ true → is_in x (y ∷ xs) ≡ true
is_in_tail x y xs h = or_right (nat_eq y x) (is_in x xs) h

-- what is in a list is its first or in the rest
pub is_in_cases : (x y : ℕ) (xs : List ℕ) → is_in x (y ∷ xs) ≡ true → (y ≡ x) ⊎ (is_in x xs ≡ true)
is_in_cases x y xs h =
    elim (or_cases (nat_eq y x) (is_in x xs) h) [
      | inl e ↦ inl (same_from_test y x e)
      | inr r ↦ inr r
    ]

-- the numbers from k on are those that lie there
pub is_in-count_from : (x k n : ℕ) → k ≤ x → x < k + n → is_in x (count_from k n) ≡ true
is_in-count_from x k zero low high = absurd (omega arith)
is_in-count_from x k (suc n) low high =
    elim (nat_eq k x) as (λ t. nat_eq k x ≡ t → is_in x (count_from k (suc n)) ≡ true) [
      | true ↦ λ e. or_left (nat_eq k x) (is_in x (count_from (suc k) n)) e
      | false ↦ λ e. let other : k ≡ x → ⊥ = test_other k x e in
          or_right (nat_eq k x) (is_in x (count_from (suc k) n)) (is_in-count_from x (suc k) n (grind arith) (omega arith))
    ] refl

pub count_from-below : (x k n : ℕ) → is_in x (count_from k n) ≡ true → x < k + n
count_from-below x k zero h = cc
count_from-below x k (suc n) h =
    elim (is_in_cases x k (count_from (suc k) n) h) [
      | inl e ↦ omega arith
      | inr r ↦ let below : x < suc k + n = count_from-below x (suc k) n r in omega arith
    ]

-- where some number of a list passes a test, one in it does
pub any_in : (p : ℕ → Bool) (xs : List ℕ) → list_any p xs ≡ true → (x : ℕ) × (is_in x xs ≡ true) × (p x ≡ true)
any_in p [] h = absurd cc
any_in p (y ∷ ys) h =
    elim (or_cases (p y) (list_any p ys) h) [
      | inl e ↦ (y, is_in_head y ys, e)
      | inr r ↦ let found = any_in p ys r in (found.0, is_in_tail found.0 y ys found.1, found.2)
    ]

pub not_either : (a b : Bool) → (a || b) ≡ false → (a ≡ false) × (b ≡ false)
not_either true b h = absurd cc
not_either false b h = (refl, h)

-- and where none does, each fails
pub none_in : (p : ℕ → Bool) (xs : List ℕ) → list_any p xs ≡ false → (x : ℕ) → is_in x xs ≡ true → p x ≡ false
none_in p [] h x m = absurd cc
none_in p (y ∷ ys) h x m =
    elim (is_in_cases x y ys m) [
      | inl e ↦ ap p (sym e) ∙ (not_either (p y) (list_any p ys) h).0
      | inr r ↦ none_in p ys (not_either (p y) (list_any p ys) h).1 x r
    ]

-- one in a list that passes makes some pass
pub any_from_in : (p : ℕ → Bool) (xs : List ℕ) (x : ℕ) → is_in x xs ≡ true → p x ≡ true → list_any p xs ≡ true
any_from_in p [] x m h = m
any_from_in p (y ∷ ys) x m h =
    elim (is_in_cases x y ys m) [
      | inl e ↦ or_left (p y) (list_any p ys) (ap p e ∙ h)
      | inr r ↦ or_right (p y) (list_any p ys) (any_from_in p ys x r h)
    ]

pub both_left : (a b : Bool) → (a && b) ≡ true → a ≡ true
both_left true b h = refl
both_left false b h = h

pub both_right : (a b : Bool) → (a && b) ≡ true → b ≡ true
both_right true b h = h
both_right false b h = absurd cc

-- what is in a list is in its reverse, and back
pub is_in-reverse : (x : ℕ) (xs : List ℕ) → is_in x (reverse xs) ≡ is_in x xs
is_in-reverse x [] = refl
is_in-reverse x (y ∷ xs) =
    ap (is_in x) (reverse-cons y xs)
    ∙ list_any-append (λ z. nat_eq z x) (reverse xs) (y ∷ [])
    ∙ ap (λ (b : Bool). b || is_in x (y ∷ [])) (is_in-reverse x xs)
    ∙ or_swap (is_in x xs) (nat_eq y x) where
      or_swap : (a b : Bool) → (a || (b || false)) ≡ (b || a)
      or_swap true true = refl
      or_swap true false = refl
      or_swap false true = refl
      or_swap false false = refl
