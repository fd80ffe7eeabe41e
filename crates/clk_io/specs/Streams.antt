-- What whole runs of reads and writes take from a source and add to a sink.
use Rattle.std.specs.Prelude.{ℕ, Option, None, ◌<◌, ◌≤◌, List, length, take}
use Rattle.std.specs.Io.KnownBytes.{Appends, Consumes, IsAtEnd}

-- the bytes of what does not tell them
abbrev pub untold : Option (List ℕ)
untold = None

-- these bytes are all that was left, and no more than the limit
pub record TakesAll (limit : ℕ) (old new : Option (List ℕ)) (bytes : List ℕ) : Type 0 where
  pub fits : length bytes ≤ limit
  pub taken : Consumes old new bytes
  pub at_end : IsAtEnd new

-- more bytes than the limit were taken
abbrev pub TakesMore : ℕ → Option (List ℕ) → Option (List ℕ) → Type 0
TakesMore limit old new = (bytes : List ℕ) × (limit < length bytes) × Consumes old new bytes

-- some bytes were taken, and no more than the limit
abbrev pub TakesSome : ℕ → Option (List ℕ) → Option (List ℕ) → Type 0
TakesSome limit old new = (bytes : List ℕ) × (length bytes ≤ limit) × Consumes old new bytes

-- the bytes up to some place in them were appended
abbrev pub AppendsFront : Option (List ℕ) → Option (List ℕ) → List ℕ → Type 0
AppendsFront old new bytes = (n : ℕ) × (n ≤ length bytes) × Appends old new (take n bytes)
