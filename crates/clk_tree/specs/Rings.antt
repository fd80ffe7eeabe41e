-- Numbers that stand in rings.
use Rattle.std.specs.Prelude.{◌≡◌, ℕ, zero, suc, ◌<◌, ◌==◌, List, [], ◌∷◌, if◌then◌else◌, length, slice_index}

-- from each number that one list names, the other leads back
abbrev pub LeadsBack : List ℕ → List ℕ → Type 0
LeadsBack there back = (i : ℕ) → i < length there → (slice_index there i < length back) × (slice_index back (slice_index there i) ≡ i)

-- behind each number stands one, and before each number stands one, and the two fit
pub record AreRings (after before : List ℕ) : Type 0 where
  pub sizes : length before ≡ length after
  pub forth : LeadsBack after before
  pub back : LeadsBack before after

-- behind a number stand these numbers, one behind the other, and then the end
abbrev pub Leads : List ℕ → ℕ → ℕ → List ℕ → Type 0
Leads after end a [] = slice_index after a ≡ end
Leads after end a (x ∷ xs) = (slice_index after a ≡ x) × Leads after end x xs

-- the numbers that stand behind a number up to the end, at most so many
abbrev pub behind : List ℕ → ℕ → ℕ → ℕ → List ℕ
behind after end zero a = []
behind after end (suc few) a = if slice_index after a == end then [] else slice_index after a ∷ behind after end few (slice_index after a)

-- the numbers below n that stand in the ring of n
unfoldable pub ring_of : List ℕ → ℕ → List ℕ
ring_of after n = behind after n n n
