-- What each step on the lock's word tells the seat that made it, and how views are cut and joined.
use Rattle.std.specs.Prelude.{◌≡◌, ◌≢◌, ℕ, ◌+◌, ◌-◌, ◌≤◌, true, false, List, [], ◌∷◌, ◌++◌, sum_by, Option, Some, None}
use Rattle.atomic_table.specs.Table.{Me, Step}
use Rattle.tier_lock.specs.declared.view.View.{View}
use Rattle.tier_lock.specs.declared.view.Ended.{Ended}
use Rattle.tier_lock.specs.declared.view.Lent.{Lent}
use Rattle.tier_lock.specs.Entries.{Reading, own, IsPrefix, AddsEnablesOnly, AreBelow, longer_of}

module _ {E F : Type 0} where
  -- the pass with the turn, which has seen this log
  abbrev pub with_turn : List E → View E F → View E F
  with_turn log v = record v { turn = true; seen = log }

  -- the pass after its turn, with one entry of this cost more
  abbrev pub with_entry : (E → ℕ) → E → View E F → View E F
  with_entry cost e v = record v { turn = false; seen = v.seen ++ e ∷ []; mine = v.mine ++ e ∷ []; room = v.room - cost e }

  abbrev pub without_turn : View E F → View E F
  without_turn v = record v { turn = false }

  -- number 0 after a split
  abbrev pub with_less : ℕ → View E F → View E F
  with_less room v = record v { made = v.made + 1; room = v.room - room }

  abbrev pub without_baton : View E F → View E F
  without_baton v = record v { baton = false }

  -- the pass with a baton that had seen this much; which of the two lists is longer is learned by the load behind it
  abbrev pub with_baton : View E F → View E F → View E F
  with_baton v w = record v { baton = true; beside = Some (record { seen = w.seen; fixed = w.fixed }) }

  abbrev pub settled : List E → View E F → View E F
  settled seen v = record v { seen = longer_of v.seen seen; beside = None }

  -- what is kept of a pass that ends
  abbrev pub ended_of : View E F → Ended E F
  ended_of v = record { number = v.number; seen = v.seen; mine = v.mine; made = v.made; fixed = v.fixed }

  -- the baton keeps what the other pass knew, and its room
  abbrev pub with_ended : View E F → View E F → View E F
  with_ended v w = record v { room = v.room + w.room; ended = v.ended ++ ended_of w ∷ [] }

module _ {T E F : Type 0} (k : Reading T E F) where
  -- what a pass learns of the value that it takes
  pub record Shown (v : View E F) (log : List E) (fixed : F) : Type 0 where
    pub seen : IsPrefix v.seen log
    pub fixed_is : v.fixed ≡ Some fixed
    pub mine : own k.by v.number log ≡ v.mine
    pub room : v.room + sum_by k.cost log ≤ k.most fixed
    pub numbers : v.number ≡ 0 → AreBelow k.by v.made log
    pub baton : v.baton ≡ true → AddsEnablesOnly k.prep v.seen log

  -- what a take tells that wins, from the lock whose fixed part has this name
  pub record Won (named : Option F) (v : View E F) (m' : Me (Option T) (View E F)) : Type 0 where
    pub value : T
    pub seat : m' ≡ (with_turn (k.entries value) v, (0, Some value) ∷ [])
    pub shown : Shown v (k.entries value) (k.fixed value)
    pub fixed_is : named ≡ Some (k.fixed value)

  -- a compare-exchange of an even word wins, or changes nothing
  pub record Wins (named : Option F) (st : Step (Option T)) (m : Me (Option T) (View E F)) (found : ℕ) (m' : Me (Option T) (View E F)) : Type 0 where
    pub won : found ≡ st.first → Won named m.0 m'
    pub lost : found ≢ st.first → m' ≡ m

  -- the turn ends with the entry that the value in hand has more
  abbrev pub Gives : Step (Option T) → Me (Option T) (View E F) → ℕ → Me (Option T) (View E F) → Type 0
  Gives st m found m' = (value : T) (e : E) → m.1 ≡ (0, Some value) ∷ [] → k.entries value ≡ m.0.seen ++ e ∷ [] → m' ≡ (with_entry k.cost e m.0, [])

  -- the turn ends without an entry
  abbrev pub GivesBack : Step (Option T) → Me (Option T) (View E F) → ℕ → Me (Option T) (View E F) → Type 0
  GivesBack st m found m' = m' ≡ (without_turn m.0, [])

  -- a load shows that a new pass has seen no entry of its number
  pub record Looks (st : Step (Option T)) (m : Me (Option T) (View E F)) (found : ℕ) (m' : Me (Option T) (View E F)) : Type 0 where
    pub same : m' ≡ m
    pub known : own k.by m.0.number m.0.seen ≡ m.0.mine

  -- what the load behind a lend tells
  pub record Settled (v : View E F) (lent : Lent E F) (c : List (ℕ × Option T)) (m' : Me (Option T) (View E F)) : Type 0 where
    pub seat : m' ≡ (settled lent.seen v, c)
    pub seen : IsPrefix v.seen (longer_of v.seen lent.seen)
    pub lent_seen : IsPrefix lent.seen (longer_of v.seen lent.seen)
    pub behind : AddsEnablesOnly k.prep lent.seen (longer_of v.seen lent.seen)
    pub known : own k.by v.number (longer_of v.seen lent.seen) ≡ v.mine
    pub fixed : v.fixed ≡ lent.fixed

  abbrev pub Settles : Step (Option T) → Me (Option T) (View E F) → ℕ → Me (Option T) (View E F) → Type 0
  Settles st m found m' = (lent : Lent E F) → m.0.beside ≡ Some lent → Settled m.0 lent m.1 m'
