-- What is said at one place after another, together.
use Rattle.std.specs.Prelude.{ℕ, zero, suc, ◌+◌, List, [], ◌∷◌, ◌++◌}

-- what the places below n give, in order
unfoldable pub joined : {X : Type 0} → (ℕ → List X) → ℕ → List X
joined f zero = []
joined f (suc n) = joined f n ++ f n

-- one element for each place below n
abbrev pub listed : {X : Type 0} → (ℕ → X) → ℕ → List X
listed f n = joined (λ k. f k ∷ []) n

-- the sum of what the places below n give
unfoldable pub total : (ℕ → ℕ) → ℕ → ℕ
total f zero = 0
total f (suc n) = total f n + f n
