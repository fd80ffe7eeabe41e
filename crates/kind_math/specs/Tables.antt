-- Dividers with a table: what their fields divide by, and which divisor and which field a rate takes.
use Rattle.std.specs.Prelude.{ℕ, ◌<◌, Bool, List, Option, Some, None, map, min, max, nat_le, nat_eq, length, All, if◌then◌else◌}
use Rattle.std.specs.List.{find, filter, fold, IsDistinct}
use Rattle.std.specs.Option.{option_map_or}
use Rattle.std.specs.Int.{div_ceil}
use Rattle.kind_math.specs.declared.table_row.TableRow.{TableRow}
use Rattle.kind_math.specs.Rates.{divided}
use Rattle.kind_math.specs.Choices.{least}
use Rattle.kind_math.specs.Closest.{closest}
use Rattle.kind_math.specs.Dividers.{least_or_greatest}

-- a table that a divider may have: it has a row, divides by no 0, and has no value twice
pub record IsTable (table : List TableRow) : Type 0 where
  pub some : 0 < length table
  pub divides : All (λ row. 0 < row.div) table
  pub apart : IsDistinct nat_eq (map (λ row. row.value) table)

-- what the rows divide by, in their order
abbrev pub divisors_of : List TableRow → List ℕ
divisors_of table = map (λ row. row.div) table

-- the divisor of the row with this value, 0 if there is none
unfoldable pub divisor_of : List TableRow → ℕ → ℕ
divisor_of table value = option_map_or (λ row. row.div) (find (λ row. nat_eq row.value value) table) 0

-- the value of the first row with this divisor, 0 if there is none
unfoldable pub value_of : List TableRow → ℕ → ℕ
value_of table div = option_map_or (λ row. row.value) (find (λ row. nat_eq row.div div) table) 0

-- a divider with a table rounds up; a field that no row has leaves the parent's rate
unfoldable pub table_rate : ℕ → ℕ → List TableRow → ℕ
table_rate parent field table = divided parent (divisor_of table field)

-- the divisor for a wanted rate: the least that is at least `parent / rate` rounded up, or else the greatest; or the one with
-- the closest rate; a wanted rate of 0 counts as 1
unfoldable pub table_round : ℕ → ℕ → List TableRow → Bool → ℕ
table_round parent rate table to_closest =
    if to_closest then closest parent (max rate 1) (divisors_of table)
    else least_or_greatest (λ d. nat_le (div_ceil parent (max rate 1)) d) (divisors_of table)

-- the divisor that sets a planned rate: the least whose rate isn't above it, or else the greatest
unfoldable pub planned_divisor : ℕ → ℕ → List TableRow → ℕ
planned_divisor parent rate table = least_or_greatest (λ d. nat_le (div_ceil parent d) rate) (divisors_of table)

-- the value that sets a planned rate: that of the first row with this divisor
unfoldable pub table_setting : ℕ → ℕ → List TableRow → ℕ
table_setting parent rate table = value_of table (planned_divisor parent rate table)

-- the lesser one of a divisor that was found, if there is one, and of those of a list that pass
abbrev pub lesser : (ℕ → Bool) → Option ℕ → List ℕ → Option ℕ
lesser passes None divisors = least passes divisors
lesser passes (Some found) divisors = Some (fold min found (filter passes divisors))
