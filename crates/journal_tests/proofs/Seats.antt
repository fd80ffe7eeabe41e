-- Which seats are all that were made.
use Rattle.std.proofs.Common.{◌≡◌, ℕ, zero, suc, ◌<◌, List, [], ◌∷◌, length, refl, sym, subst, arith}
use Rattle.std.specs.Prelude.{slice_index_or}
use Rattle.tier_lock.specs.Known.{KnownPass, AreAll}

module _ {E F : Type 0} where
  -- the seat of number 0, if no other was made
  pub one_is_all : {items : List (KnownPass E F)} (p : KnownPass E F) → items ≡ p ∷ [] → p.number ≡ 0 → p.made ≡ 1 → AreAll items
  one_is_all p is first made = subst (λ (l : List (KnownPass E F)). AreAll l) (sym is) record { count = 1; first = (p, (0, omega arith, refl), first, made); others = each } where
    each : (n : ℕ) → n < 1 → (q : KnownPass E F) × ((k : ℕ) × (k < length (p ∷ [])) × (slice_index_or (p ∷ []) k q ≡ q)) × (q.number ≡ n)
    each zero low = (p, (0, omega arith, refl), first)
    each (suc n) low = absurd (omega (arith, low))

  -- it and the next one, if two were made
  pub two_are_all : {items : List (KnownPass E F)} (p q : KnownPass E F) → items ≡ p ∷ q ∷ [] → p.number ≡ 0 → p.made ≡ 2 → q.number ≡ 1 → AreAll items
  two_are_all p q is first made second = subst (λ (l : List (KnownPass E F)). AreAll l) (sym is) record { count = 2; first = (p, (0, omega arith, refl), first, made); others = each } where
    each : (n : ℕ) → n < 2 → (r : KnownPass E F) × ((k : ℕ) × (k < length (p ∷ q ∷ [])) × (slice_index_or (p ∷ q ∷ []) k r ≡ r)) × (r.number ≡ n)
    each zero low = (p, (0, omega arith, refl), first)
    each (suc zero) low = (q, (1, omega arith, refl), second)
    each (suc (suc n)) low = absurd (omega (arith, low))
