-- Seats' views in their list: what a change of one leaves of the others, and of a sum over all.
use Rattle.std.proofs.Common.{◌≡◌, ◌⊎◌, ℕ, zero, suc, ◌+◌, ◌<◌, ◌≤◌, List, [], ◌∷◌, ◌++◌, length, set, refl, sym, ap, ◌∙◌, inl, inr, ⊎_elim, arith}
use Rattle.std.specs.Prelude.{sum_by}
use Rattle.std.proofs.lemmas.List.Sums.{sum_by-cons}
use mathlib.Core.Option.{some, some-injective, some-ne-none}
use lib.ListN.{get_elem?}

module _ {V : Type 0} where
  -- the one element that a longer list has more stands at its end
  pub at_end : (l : List V) (a b : V) (j : ℕ) → get_elem? (l ++ a ∷ []) j ≡ some b → (get_elem? l j ≡ some b) ⊎ ((a ≡ b) × (j ≡ length l))
  at_end [] a b zero e = inr (some-injective a b e, refl)
  at_end [] a b (suc j) e = absurd (some-ne-none b (sym e))
  at_end (x ∷ xs) a b zero e = inl e
  at_end (x ∷ xs) a b (suc j) e = ⊎_elim (λ h. inl h) (λ t. inr (t.0, ap suc t.1)) (at_end xs a b j e)

  pub at_below : (l : List V) (j : ℕ) (a : V) → get_elem? l j ≡ some a → j < length l
  at_below [] j a e = absurd (some-ne-none a (sym e))
  at_below (x ∷ xs) zero a e = omega arith
  at_below (x ∷ xs) (suc j) a e = let h = at_below xs j a e in omega arith

  -- one list has one element at a place
  pub at_once : (l : List V) (j : ℕ) (a b : V) → get_elem? l j ≡ some a → get_elem? l j ≡ some b → a ≡ b
  at_once l j a b e f = some-injective a b (sym e ∙ f)

  module _ (f : V → ℕ) where
    pub sum_set : (l : List V) (i : ℕ) (a b : V) → get_elem? l i ≡ some a → sum_by f (set l i b) + f a ≡ sum_by f l + f b
    sum_set [] i a b e = absurd (some-ne-none a (sym e))
    sum_set (x ∷ xs) zero a b e = let same : f x ≡ f a = ap f (some-injective x a e) in omega (arith, sum_by-cons f b xs, sum_by-cons f x xs)
    sum_set (x ∷ xs) (suc i) a b e = let h = sum_set xs i a b e in omega (arith, sum_by-cons f x (set xs i b), sum_by-cons f x xs)

    pub sum_at : (l : List V) (i : ℕ) (a : V) → get_elem? l i ≡ some a → f a ≤ sum_by f l
    sum_at [] i a e = absurd (some-ne-none a (sym e))
    sum_at (x ∷ xs) zero a e = let same : f x ≡ f a = ap f (some-injective x a e) in omega (arith, sum_by-cons f x xs)
    sum_at (x ∷ xs) (suc i) a e = let h = sum_at xs i a e in omega (arith, sum_by-cons f x xs)
