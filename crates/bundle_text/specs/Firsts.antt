-- The first place at which a test finds a fault, and what was read from the places before it.
use Rattle.std.specs.Prelude.{◌≡◌, ℕ, zero, suc, ◌+◌, ◌<◌, Option, Some, None, List, [], ◌∷◌}

-- the test finds no fault below n
abbrev pub KeepsBelow : {R : Type 0} → (ℕ → Option R) → ℕ → Type 0
KeepsBelow test n = (k : ℕ) → k < n → test k ≡ None

-- below n, this is the first place at which the test finds a fault, and the fault is this one
pub record First {R : Type 0} (test : ℕ → Option R) (n place : ℕ) (fault : R) : Type 0 where
  pub within : place < n
  pub before : KeepsBelow test place
  pub found : test place ≡ Some fault

-- x in front of the list, where there is an x
abbrev pub onto : {X : Type 0} → Option X → List X → List X
onto None xs = xs
onto (Some x) xs = x ∷ xs

-- what is said at count places from a first one on, in order
abbrev pub said_from : {X : Type 0} → (ℕ → Option X) → ℕ → ℕ → List X
said_from said from zero = []
said_from said from (suc count) = onto (said from) (said_from said (from + 1) count)
