-- What the fields of the handles keep.
use Rattle.std.specs.Prelude.{◌≡◌, ℕ, ◌+◌, ◌-◌, ◌^◌, ◌<◌, ◌≤◌, List, Option, Some, None, slice_index_or, length}
use Rattle.reset_core.specs.declared.record.HandleRecord.{HandleRecord}
use Rattle.reset_core.specs.declared.handles.Tally.{Tally}
use Rattle.reset_core.specs.Lines.{row_at, shared_weight, other_weight, acquired_weight, deassert_weight, shared_on, others_on, acquired_on, deasserts_on}

-- what contracts see of the handles: each by its number, how many lines there are, and for how many handles there is memory
pub record Held : Type 0 where
  pub rows : List (Option HandleRecord)
  pub lines : ℕ
  pub capacity : ℕ

abbrev pub tally_of : List (Option HandleRecord) → ℕ → Tally
tally_of handles l = record {
  shared = shared_on l handles;
  others = others_on l handles;
  acquired = acquired_on l handles;
  deasserts = deasserts_on l handles;
}

abbrev pub no_tally : Tally
no_tally = record { shared = 0; others = 0; acquired = 0; deasserts = 0 }

-- what one handle counts for its line
abbrev pub weights_of : Option HandleRecord → Tally
weights_of None = no_tally
weights_of (Some r) = record { shared = shared_weight r; others = other_weight r; acquired = acquired_weight r; deasserts = deassert_weight r }

-- of a count one part may be replaced by another
pub record MayMove (count less more : ℕ) : Type 0 where
  pub within : less ≤ count
  pub fits : count - less + more < 2 ^ 32

-- a handle's weights may be replaced by others
pub record MaySwap (t old new : Tally) : Type 0 where
  pub shared_ : MayMove t.shared old.shared new.shared
  pub others_ : MayMove t.others old.others new.others
  pub acquired_ : MayMove t.acquired old.acquired new.acquired
  pub deasserts_ : MayMove t.deasserts old.deasserts new.deasserts

pub record Swapped (t old new left : Tally) : Type 0 where
  pub shared_ : left.shared + old.shared ≡ t.shared + new.shared
  pub others_ : left.others + old.others ≡ t.others + new.others
  pub acquired_ : left.acquired + old.acquired ≡ t.acquired + new.acquired
  pub deasserts_ : left.deasserts + old.deasserts ≡ t.deasserts + new.deasserts

-- each line has its sums, and each live handle is of a line
pub record IsTallied (tallies : List Tally) (handles : List (Option HandleRecord)) : Type 0 where
  pub each : (l : ℕ) → l < length tallies → slice_index_or tallies l no_tally ≡ tally_of handles l
  pub inside : (n : ℕ) (r : HandleRecord) → row_at handles n ≡ Some r → r.line < length tallies
  pub few : length handles < 2 ^ 32
