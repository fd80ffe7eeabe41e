-- What contracts see of a pass, a baton and a lock.
use Rattle.std.specs.Prelude.{◌≡◌, ℕ, ◌+◌, ◌-◌, ◌<◌, Bool, false, List, [], ◌∷◌, ◌++◌, Option, Some, Contains}
use Rattle.atomic_table.specs.Seated.{TableId}

-- what a pass shows
pub record KnownPass (E F : Type 0) : Type 0 where
  -- its lock
  pub table : TableId
  pub number : ℕ
  -- the log as far as this pass was shown it, and its own entries
  pub seen : List E
  pub mine : List E
  -- what its further entries may cost
  pub room : ℕ
  -- the fixed part of the lock's value
  pub fixed : Option F
  -- of number 0: how many passes were made
  pub made : ℕ
  pub baton : Bool
  -- whether it holds the turn
  pub turn : Bool

-- what the baton shows while no pass has it
pub record KnownBaton (E F : Type 0) : Type 0 where
  pub table : TableId
  pub seen : List E
  pub fixed : Option F

-- what a lock shows
pub record KnownLock (F : Type 0) : Type 0 where
  pub table : TableId
  pub fixed : F

module _ {E F : Type 0} where
  -- the pass after it has added an entry of this cost
  abbrev pub added : (E → ℕ) → E → KnownPass E F → KnownPass E F
  added cost e p = record p { turn = false; seen = p.seen ++ e ∷ []; mine = p.mine ++ e ∷ []; room = p.room - cost e }

  -- the first pass of a lock, which has all room
  abbrev pub first_known : TableId → F → ℕ → KnownPass E F
  first_known table fixed room = record { table = table; number = 0; seen = []; mine = []; room = room; fixed = Some fixed; made = 1; baton = false; turn = false }

  -- number 0 with what is left after a split
  abbrev pub parted : ℕ → KnownPass E F → KnownPass E F
  parted room p = record p { made = p.made + 1; room = p.room - room }

  -- the next pass, which has seen as much as number 0 and has no entry
  abbrev pub next_pass : ℕ → KnownPass E F → KnownPass E F
  next_pass room p = record { table = p.table; number = p.made; seen = p.seen; mine = []; room = room; fixed = p.fixed; made = 0; baton = false; turn = false }

  -- the baton with what the pass has seen
  abbrev pub baton_of : KnownPass E F → KnownBaton E F
  baton_of p = record { table = p.table; seen = p.seen; fixed = p.fixed }

  -- a pass of this lock that holds no turn
  pub record IsIdle (table : TableId) (p : KnownPass E F) : Type 0 where
    pub table_is : p.table ≡ table
    pub turn : p.turn ≡ false

  -- number 0 is among them, and so is each number below the count that it keeps
  pub record AreAll (passes : List (KnownPass E F)) : Type 0 where
    pub count : ℕ
    pub first : (p : KnownPass E F) × Contains passes p × (p.number ≡ 0) × (p.made ≡ count)
    pub others : (n : ℕ) → n < count → (p : KnownPass E F) × Contains passes p × (p.number ≡ n)
