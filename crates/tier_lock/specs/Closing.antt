-- What is left of a lock once each pass has ended.
use Rattle.std.specs.Prelude.{◌≡◌, ℕ, ◌+◌, ◌≤◌, ◌<◌, true, false, List, [], ◌++◌, Option, Some, None, All, Contains, map, sum_by}
use Rattle.atomic_table.specs.Table.{Me}
use Rattle.tier_lock.specs.declared.view.View.{View}
use Rattle.tier_lock.specs.declared.view.Ended.{Ended}
use Rattle.tier_lock.specs.Entries.{Reading, own, IsPrefix, AddsEnablesOnly, AreBelow}
use Rattle.tier_lock.specs.Known.{KnownPass}

module _ {E F : Type 0} where
  -- what is kept of a pass that ends
  abbrev pub ended_pass : KnownPass E F → Ended E F
  ended_pass p = record { number = p.number; seen = p.seen; mine = p.mine; made = p.made; fixed = p.fixed }

  -- the baton's seat with these passes ended
  abbrev pub with_passes : List (KnownPass E F) → View E F → View E F
  with_passes ps v = record v { room = v.room + sum_by (λ (p : KnownPass E F). p.room) ps; ended = v.ended ++ map ended_pass ps }

  -- number 0 has ended, and so has each number below the count that it kept
  pub record AllEnded (ended : List (Ended E F)) : Type 0 where
    pub count : ℕ
    pub first : (x : Ended E F) × Contains ended x × (x.number ≡ 0) × (x.made ≡ count)
    pub others : (n : ℕ) → n < count → (x : Ended E F) × Contains ended x × (x.number ≡ n)

  -- the seat of a baton that no pass has
  pub record KeepsAll {T : Type 0} (m : Me (Option T) (View E F)) : Type 0 where
    pub has : m.0.baton ≡ true
    pub dead : m.0.live ≡ false
    pub idle : m.0.turn ≡ false
    pub alone : m.0.beside ≡ None
    pub hand : m.1 ≡ []

module _ {T E F : Type 0} (k : Reading T E F) (fixed : F) where
  -- the log has what the pass had seen and its own entries, and where it is number 0 it kept the count of all numbers
  pub record LeftIn (log : List E) (x : Ended E F) : Type 0 where
    pub seen : IsPrefix x.seen log
    pub mine : own k.by x.number log ≡ x.mine
    pub numbers : x.number ≡ 0 → AreBelow k.by x.made log
    pub fixed_is : x.fixed ≡ Some fixed

  -- the value of a closed lock, where v is what the baton's seat knew
  pub record Closed (v : View E F) (value : T) : Type 0 where
    pub passes : All (λ x. LeftIn (k.entries value) x) v.ended
    pub behind : AddsEnablesOnly k.prep v.seen (k.entries value)
    pub room : v.room + sum_by k.cost (k.entries value) ≤ k.most fixed
    pub baton_fixed : v.fixed ≡ Some fixed
    pub value_fixed : k.fixed value ≡ fixed
