-- What the check of a description keeps beside its clocks.
use Rattle.std.specs.Prelude.{◌≡◌, ℕ, ◌+◌, ◌<◌, min, ◌==◌, ◌&&◌, Bool, false, if◌then◌else◌, nat_lt, nat_le, List, [], ◌∷◌, ◌++◌, fold, length, slice_index, slice_index_or}
use Rattle.std.specs.List.{list_any, sum_by}
use Rattle.reg_bank.specs.Registers.{is_set}
use Rattle.clk_base.specs.Description.{Description, parents_of}
use Rattle.clk_base.specs.Fields.{Field}
use Rattle.clk_base.specs.Levels.{ends_within}
use Rattle.clk_base.specs.Valid.{most_work}
use Rattle.clk_base.specs.Work.{work_within}

-- whether a field has the bit of this word
abbrev pub covers : ℕ → ℕ → Field → Bool
covers word bit f = (f.word == word) && (nat_le f.shift bit && nat_lt bit (f.shift + f.width))

-- the taken bits are those of the fields
abbrev pub IsTaken : List ℕ → List Field → Type 0
IsTaken taken fields = (word bit : ℕ) → is_set taken word bit ≡ list_any (covers word bit) fields

-- the flag of a clock in a table
abbrev pub flag_at : List Bool → ℕ → Bool
flag_at table c = slice_index_or table c false

-- for each clock, whether its lines of possible parents have at most so many clocks
pub record TellsEnds (defs : Description) (levels : ℕ) (ends : List Bool) : Type 0 where
  pub each : length ends ≡ length defs
  pub told : (c : ℕ) → c < length defs → flag_at ends c ≡ ends_within (parents_of defs) levels c

-- an amount of work that is too much
abbrev pub too_much : ℕ
too_much = most_work + 1

-- for each clock its work where lines of possible parents are cut after so many clocks; from the first
-- amount that is too much on all amounts count as that
pub record TellsWork (defs : Description) (levels : ℕ) (works : List ℕ) : Type 0 where
  pub each : length works ≡ length defs
  pub told : (c : ℕ) → c < length defs → slice_index works c ≡ min (work_within defs levels c) too_much

-- whether a clock is among places
abbrev pub has_place : List ℕ → ℕ → Bool
has_place places c = list_any (λ p. p == c) places

-- places with one more, unless it is among them
abbrev pub with_place : List ℕ → ℕ → List ℕ
with_place places c = if has_place places c then places else places ++ c ∷ []

-- places with those of a list that aren't among them
abbrev pub with_places : List ℕ → List ℕ → List ℕ
with_places places more = fold with_place places more

-- how many flags of a table are down
abbrev pub unmarked : List Bool → ℕ
unmarked table = sum_by (λ marked. if marked then 0 else 1) table

-- the marked clocks of a table are those of the places, each once
pub record IsListed (table : List Bool) (places : List ℕ) : Type 0 where
  pub same : (c : ℕ) → flag_at table c ≡ has_place places c
  pub count : length places + unmarked table ≡ length table
