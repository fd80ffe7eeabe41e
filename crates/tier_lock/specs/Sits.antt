-- How the fields of a pass and of a baton stand for what contracts see of them.
use Rattle.std.specs.Prelude.{◌≡◌, ℕ, Bool, true, false, List, [], ◌∷◌, Option, None}
use Rattle.atomic_table.specs.Table.{Me}
use Rattle.atomic_table.specs.Seated.{TableId}
use Rattle.tier_lock.specs.declared.view.View.{View}
use Rattle.tier_lock.specs.Entries.{Reading, own}
use Rattle.tier_lock.specs.Known.{KnownPass, KnownBaton}
use Rattle.tier_lock.specs.Steps.{Shown, with_turn}

-- the slots that a pass has: in its turn the lock's one slot, whose value is in the guard
abbrev pub in_hand : {A : Type 0} → Bool → List (ℕ × Option A)
in_hand true = (0, None) ∷ []
in_hand false = []

module _ {E F : Type 0} where
  abbrev pub known_pass : TableId → View E F → KnownPass E F
  known_pass table v = record { table = table; number = v.number; seen = v.seen; mine = v.mine; room = v.room; fixed = v.fixed; made = v.made; baton = v.baton; turn = v.turn }

  abbrev pub known_baton : TableId → View E F → KnownBaton E F
  known_baton table v = record { table = table; seen = v.seen; fixed = v.fixed }

  -- between two calls a pass is a live seat with its number, room and count
  pub record Sits {T : Type 0} (by : E → ℕ) (number room made : ℕ) (me : Me (Option T) (View E F)) : Type 0 where
    pub live : me.0.live ≡ true
    pub number_is : number ≡ me.0.number
    pub room_is : room ≡ me.0.room
    pub made_is : made ≡ me.0.made
    pub alone : me.0.beside ≡ None
    pub hand : me.1 ≡ in_hand me.0.turn
    pub mine_is : own by me.0.number me.0.seen ≡ me.0.mine

  -- a baton is the seat that has it, and nothing else
  pub record Lies {T : Type 0} (me : Me (Option T) (View E F)) : Type 0 where
    pub has : me.0.baton ≡ true
    pub dead : me.0.live ≡ false
    pub idle : me.0.turn ≡ false
    pub alone : me.0.beside ≡ None
    pub room_is : me.0.room ≡ 0
    pub ended_is : me.0.ended ≡ []
    pub hand : me.1 ≡ []

-- the lock has one word and one slot, and the seat is one of its
pub record IsOf (lock seat : TableId) : Type 0 where
  pub table : seat ≡ lock
  pub words : lock.words ≡ 1
  pub slots : lock.slots ≡ 1

-- the seat took this value, and knows what it has
pub record Took {T E F : Type 0} (k : Reading T E F) (value : T) (m m' : Me (Option T) (View E F)) : Type 0 where
  pub seat : m' ≡ (with_turn (k.entries value) m.0, in_hand true)
  pub shown : Shown k m.0 (k.entries value) (k.fixed value)

-- a pass's seat outside a turn
pub record IsFree {T E F : Type 0} (m : Me (Option T) (View E F)) : Type 0 where
  pub live : m.0.live ≡ true
  pub alone : m.0.beside ≡ None
  pub hand : m.1 ≡ []
