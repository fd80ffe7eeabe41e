-- What a call makes of what a pass knows.
use Rattle.std.specs.Prelude.{◌≡◌, ℕ, ◌-◌, ◌<◌, List, [], ◌∷◌, ◌++◌, Some, true, false}
use Rattle.atomic_table.specs.Seated.{TableId}
use Rattle.tier_lock.specs.Entries.{own, IsPrefix}
use Rattle.tier_lock.specs.Known.{KnownPass, first_known}

-- the first pass, which has all room and the baton
abbrev pub first_seat : {E F : Type 0} → TableId → F → ℕ → KnownPass E F
first_seat table fixed room = record (first_known table fixed room) { baton = true }

-- all that a pass shows, but for the baton
abbrev pub without_baton : {E F : Type 0} → KnownPass E F → KnownPass E F
without_baton p = record p { baton = false }

-- a pass of the lock, between two calls: it has no turn, and number 0, which counts itself among those made, has the baton
pub record IsReady {E F : Type 0} (table : TableId) (p : KnownPass E F) : Type 0 where
  pub table_is : p.table ≡ table
  pub turn : p.turn ≡ false
  pub baton : p.number ≡ 0 → p.baton ≡ true
  pub counts : p.number ≡ 0 → 0 < p.made

module _ {E F : Type 0} (legal : F → List E → Type 0) (by : E → ℕ) where
  -- what a pass has seen is legal from the fixed part that it knows, and has its own entries; number 0, while it alone was made, has
  -- seen its own entries alone
  pub record SeesRun (p : KnownPass E F) : Type 0 where
    pub start : F
    pub knows : p.fixed ≡ Some start
    pub is_legal : legal start p.seen
    pub own_ : own by p.number p.seen ≡ p.mine
    pub alone : p.number ≡ 0 → p.made ≡ 1 → p.seen ≡ p.mine

  -- an entry stands at the end of what the pass has seen and of its own, and is paid
  pub record Enters (old : KnownPass E F) (e : E) (new : KnownPass E F) : Type 0 where
    pub pass : new ≡ record old { seen = new.seen; mine = old.mine ++ e ∷ []; room = old.room - 1 }
    -- what stands before it continues what the pass had seen
    pub before : List E
    pub continues : IsPrefix old.seen before
    pub seen : new.seen ≡ before ++ e ∷ []
    pub run : SeesRun new
