-- What is held for a change in flight: how often each clock is.
use Rattle.std.specs.Prelude.{◌≡◌, ◌≢◌, ℕ, zero, suc, ◌+◌, ◌≤◌, ◌==◌, List, [], ◌∷◌, Option, Some, None, if◌then◌else◌, Bool, false, length, count_by, sum_by, slice_index}
use Rattle.counts_core.specs.Counted.{CountState}
use Rattle.core_parts.specs.declared.holds.HoldKind.{HoldKind}
use Rattle.core_parts.specs.declared.holds.HoldKind.TheVariants as kind

-- how many holders of a kind each clock has of its own
abbrev pub own_of : HoldKind → CountState → List ℕ
own_of kind.Prepare k = k.prepares
own_of kind.Enable k = k.enables
own_of kind.Exclusive k = k.exclusives

-- counts with these holders of a kind
abbrev pub with_own : HoldKind → CountState → List ℕ → CountState
with_own kind.Prepare k own = record k { prepares = own }
with_own kind.Enable k own = record k { enables = own }
with_own kind.Exclusive k own = record k { exclusives = own }

-- so many holds of a clock in front of others
abbrev pub held_times : ℕ → ℕ → List ℕ → List ℕ
held_times zero c holds = holds
held_times (suc n) c holds = c ∷ held_times n c holds

-- the holds that these counts say, of the clocks from a number on
abbrev pub listed_from : ℕ → List ℕ → List ℕ
listed_from c [] = []
listed_from c (n ∷ ns) = held_times n c (listed_from (suc c) ns)

-- the holds that these counts say, clock by clock
unfoldable pub listed : List ℕ → List ℕ
listed counts = listed_from 0 counts

-- counts say how often each clock is held
pub record TellsHolds (counts holds : List ℕ) : Type 0 where
  pub each : (c : ℕ) → count_by (λ h. h == c) holds ≡ slice_index counts c

-- counts of so many clocks, of which those that pass a test alone are held, and no more often in all than steps were made
pub record AreHeld (there : ℕ → Bool) (clocks steps : ℕ) (counts : List ℕ) : Type 0 where
  pub size : length counts ≡ clocks
  pub few : sum_by (λ n. n) counts ≤ steps
  pub inside : (c : ℕ) → there c ≡ false → slice_index counts c ≡ 0

-- how often a clock is held where the holds of another become holds of a third, or end
abbrev pub passed_times : ℕ → Option ℕ → (ℕ → ℕ) → ℕ → ℕ
passed_times p None times c = if c == p then 0 else times c
passed_times p (Some o) times c = (if c == p then 0 else times c) + (if c == o then times p else 0)

-- holds of a clock go over to another, and what the two have of their own goes with them
pub record Passes (from to : ℕ) (own own' held held' : List ℕ) : Type 0 where
  pub length_ : length held' ≡ length held
  pub sum_ : sum_by (λ n. n) held' ≡ sum_by (λ n. n) held
  pub coupled : (d : ℕ) → slice_index own' d + slice_index held d ≡ slice_index own d + slice_index held' d
  pub both : slice_index held' from + slice_index held' to ≡ slice_index held from + slice_index held to
  pub others : (d : ℕ) → d ≢ from → d ≢ to → slice_index held' d ≡ slice_index held d

-- holds of a clock end, and with them what it has of its own
pub record Ends (clock : ℕ) (own own' held held' : List ℕ) : Type 0 where
  pub length_ : length held' ≡ length held
  pub sum_ : sum_by (λ n. n) held' ≤ sum_by (λ n. n) held
  pub coupled : (d : ℕ) → slice_index own' d + slice_index held d ≡ slice_index own d + slice_index held' d
  pub others : (d : ℕ) → d ≢ clock → slice_index held' d ≡ slice_index held d
