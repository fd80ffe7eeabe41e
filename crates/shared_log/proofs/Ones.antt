-- Entries that cost one each cost as much as there are entries.
use Rattle.std.proofs.Common.{◌≡◌, ℕ, List, [], ◌∷◌, length, sum_by, refl, arith}
use Rattle.std.proofs.lemmas.List.Sums.{sum_by-cons}

pub ones : {E : Type 0} → (es : List E) → sum_by (λ (e : E). let n : ℕ = 1 in n) es ≡ length es
ones [] = refl
ones {E = E} (e ∷ es) = omega (arith, sum_by-cons (λ (e : E). let n : ℕ = 1 in n) e es, ones es)
