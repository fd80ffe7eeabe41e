-- The rule of the lock's table. There is one set of books for all seats: the log, the turn, the seat of each number, the baton and the count of numbers.
-- Each seat's view fits these books, so that facts on two seats are equations of the books' values.
use Rattle.std.specs.Prelude.{◌≡◌, ℕ, ◌+◌, ◌*◌, ◌<◌, Bool, true, false, List, [], ◌∷◌, length, sum_by, Option, Some, None, All}
use mathlib.Core.Option.{some}
use lib.ListN.{get_elem?}
use Rattle.atomic_table.specs.Table.{State}
use Rattle.tier_lock.specs.declared.view.View.{View}
use Rattle.tier_lock.specs.declared.view.Ended.{Ended}
use Rattle.tier_lock.specs.declared.view.Lent.{Lent}
use Rattle.tier_lock.specs.Entries.{Reading, own, IsPrefix, AddsEnablesOnly, AreBelow}

pub record Books (E : Type 0) : Type 0 where
  pub log : List E
  -- whether some seat holds the turn, and which
  pub taken : Bool
  pub holder : ℕ
  -- the seat of each live number
  pub seat_of : ℕ → Option ℕ
  -- the seat that has the baton
  pub keeper : ℕ
  -- how many numbers were made
  pub made : ℕ

-- one while the lock is taken
abbrev pub bit : Bool → ℕ
bit true = 1
bit false = 0

module _ {E F : Type 0} where
  -- the list that the baton of this view had seen: its own, until the load behind a lend
  abbrev pub held_seen : Option (Lent E F) → List E → List E
  held_seen None seen = seen
  held_seen (Some lent) seen = lent.seen

  abbrev pub held_fixed : Option (Lent E F) → Option F → Option F
  held_fixed None fixed = fixed
  held_fixed (Some lent) fixed = lent.fixed

module _ {T E F : Type 0} (k : Reading T E F) (fixed : F) where
  -- a pass knows the log's entries of its number, all of them among what it has seen; number 0 knows how many numbers were made
  pub record Lives (log : List E) (seat_of : ℕ → Option ℕ) (made seat : ℕ) (v : View E F) : Type 0 where
    pub seated : seat_of v.number ≡ Some seat
    pub below : v.number < made
    pub mine : own k.by v.number log ≡ v.mine
    pub known : own k.by v.number v.seen ≡ v.mine
    pub fixed_is : v.fixed ≡ Some fixed
    pub counts : v.number ≡ 0 → v.made ≡ made

  -- the pass that holds the turn has seen the whole log
  pub record HoldsTurn (log : List E) (taken : Bool) (holder seat : ℕ) (v : View E F) : Type 0 where
    pub is_taken : taken ≡ true
    pub seated : seat ≡ holder
    pub whole : v.seen ≡ log
    pub lives : v.live ≡ true

  -- behind what the baton has seen stand entries of the enable tier alone
  pub record KeepsBaton (log : List E) (keeper seat : ℕ) (v : View E F) : Type 0 where
    pub seated : seat ≡ keeper
    pub behind : AddsEnablesOnly k.prep (held_seen v.beside v.seen) log
    pub fixed_is : held_fixed v.beside v.fixed ≡ Some fixed

  -- no live pass has this number any more, and the log's entries of it are kept
  pub record HasEnded (log : List E) (seat_of : ℕ → Option ℕ) (made : ℕ) (e : Ended E F) : Type 0 where
    pub gone : seat_of e.number ≡ None
    pub below : e.number < made
    pub mine : own k.by e.number log ≡ e.mine
    pub front : IsPrefix e.seen log
    pub fixed_is : e.fixed ≡ Some fixed
    pub counts : e.number ≡ 0 → e.made ≡ made

  pub record Fits (b : Books E) (seat : ℕ) (v : View E F) : Type 0 where
    pub front : IsPrefix v.seen b.log
    pub lives : v.live ≡ true → Lives b.log b.seat_of b.made seat v
    pub turn : v.turn ≡ true → HoldsTurn b.log b.taken b.holder seat v
    pub baton : v.baton ≡ true → KeepsBaton b.log b.keeper seat v
    pub ended : All (λ e. HasEnded b.log b.seat_of b.made e) v.ended

  -- the value is in the slot, with the log as its entries
  pub record Rests (homes : List (mathlib.Core.Option.Option (Option T))) (log : List E) : Type 0 where
    pub value : T
    pub home : homes ≡ some (Some value) ∷ []
    pub entries_are : k.entries value ≡ log
    pub fixed_is : k.fixed value ≡ fixed

  -- the seat that holds the turn
  pub record Holder (views : List (View E F)) (seat : ℕ) : Type 0 where
    pub view : View E F
    pub there : get_elem? views seat ≡ some view
    pub turn : view.turn ≡ true

  pub record Holds (s : State (Option T) (View E F)) : Type 0 where
    pub books : Books E
    -- twice the number of entries, and one more while it is taken
    pub word : s.words ≡ (2 * length books.log + bit books.taken) ∷ []
    pub free : books.taken ≡ false → Rests s.homes books.log
    pub held : books.taken ≡ true → Holder s.views books.holder
    pub each : (seat : ℕ) (v : View E F) → get_elem? s.views seat ≡ some v → Fits books seat v
    pub numbers : AreBelow k.by books.made books.log
    -- what all seats may still add and what the log has cost are the total
    pub rooms : sum_by (λ (v : View E F). v.room) s.views + sum_by k.cost books.log ≡ k.most fixed

module _ {E F : Type 0} where
  -- the first pass: number 0, with all room and the baton, which is handed out at once
  abbrev pub first_pass : F → ℕ → View E F
  first_pass fixed room = record { live = true; number = 0; seen = []; mine = []; room = room; fixed = Some fixed; made = 1; ended = []; baton = true; turn = false; beside = None }

  -- a baton that no pass has
  abbrev pub loose : View E F → View E F
  loose v = record { live = false; number = 0; seen = v.seen; mine = []; room = 0; fixed = v.fixed; made = 0; ended = []; baton = true; turn = false; beside = None }

  -- what is left of a seat that was joined to another
  abbrev pub spent : View E F
  spent = record { live = false; number = 0; seen = []; mine = []; room = 0; fixed = None; made = 0; ended = []; baton = false; turn = false; beside = None }

  -- a new pass of the next number, with this room
  abbrev pub newcomer : ℕ → View E F → View E F
  newcomer room v = record { live = true; number = v.made; seen = v.seen; mine = []; room = room; fixed = v.fixed; made = 0; ended = []; baton = false; turn = false; beside = None }
