-- What the handles of all drivers say: words on the list of handles by number.
use Rattle.std.specs.Prelude.{ℕ, ◌==◌, ◌||◌, List, Bool, false, Option, None, nat_lt, fold, map, max, min, filter, slice_set}
use Rattle.std.specs.Option.{option_map, option_map_or}
use Rattle.std.specs.List.{list_any}
use Rattle.clk_base.specs.declared.clock.ClockId.{ClockId}
use Rattle.clk_model.specs.declared.row.HandleRow.{HandleRow}
use Rattle.clk_model.specs.Lists.{present}
use Rattle.clk_model.specs.State.{handle_at}
use Rattle.clk_model.specs.Round.{most_rate}

-- the handles by number, with nothing where one was put back, the number of the clocks that they may be of, and the
-- clock for a handle of which a place is made
pub record HandleTable : Type 0 where
  pub clocks : ℕ
  pub handles : List (Option HandleRow)
  pub place : Option ℕ

-- a new handle of a driver on a clock, which allows every rate
abbrev pub new_row : ℕ → ClockId → HandleRow
new_row driver clock = record { driver = driver; clock = clock; prepares = 0; enables = 0; exclusives = 0; min = 0; max = most_rate }

-- whether the driver has a live handle of this number
abbrev pub has_handle : List (Option HandleRow) → ℕ → ℕ → Bool
has_handle handles driver number = option_map_or (λ h. h.driver == driver) (handle_at handles number) false

-- the live handles of a clock
abbrev pub rows_on : List (Option HandleRow) → ℕ → List HandleRow
rows_on handles c = filter (λ h. h.clock.0 == c) (present handles)

-- the greatest minimum over the live handles of a clock
abbrev pub low_in : List (Option HandleRow) → ℕ → ℕ
low_in handles c = fold max 0 (map (λ h. h.min) (rows_on handles c))

-- the least maximum over the live handles of a clock
abbrev pub high_in : List (Option HandleRow) → ℕ → ℕ
high_in handles c = fold min most_rate (map (λ h. h.max) (rows_on handles c))

-- whether a range for the handle of this number is empty, or misses that of another live handle of its clock
abbrev pub misses_in : List (Option HandleRow) → ℕ → ℕ → ℕ → ℕ → Bool
misses_in handles number c least most =
    nat_lt most least || list_any (λ o. nat_lt o.max least || nat_lt most o.min) (rows_on (slice_set handles number None) c)

-- the handles with another range for one of them
abbrev pub with_range_at : List (Option HandleRow) → ℕ → ℕ → ℕ → List (Option HandleRow)
with_range_at handles number least most =
    slice_set handles number (option_map (λ (h : HandleRow). let row : HandleRow = record h { min = least; max = most } in row) (handle_at handles number))

-- the handles with other counts for one of them
abbrev pub with_counts_at : List (Option HandleRow) → ℕ → ℕ → ℕ → ℕ → List (Option HandleRow)
with_counts_at handles number prepares enables exclusives =
    slice_set handles number (option_map (λ (h : HandleRow). let row : HandleRow = record h { prepares = prepares; enables = enables; exclusives = exclusives } in row) (handle_at handles number))
