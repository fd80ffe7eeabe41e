-- How records that lie in any order, and the place of each handle among them, stand for the list of handles by number.
use Rattle.std.specs.Prelude.{ℕ, suc, ◌==◌, List, [], ◌∷◌, Option, Some, None, if◌then◌else◌, slice_index_or}
use Rattle.clk_model.specs.declared.row.HandleRow.{HandleRow}
use Rattle.rate_requests.specs.declared.held.Held.{Held}

-- what lies in a slot
abbrev pub slot_at : List (Option Held) → ℕ → Option Held
slot_at slots k = slice_index_or slots k None

-- the row in a slot, if its record has this number
abbrev pub row_in : ℕ → Option Held → Option HandleRow
row_in number None = None
row_in number (Some h) = if h.number == number then Some h.row else None

-- the rows of handles whose numbers begin with this one, each from its place among the slots
abbrev pub rows_from : ℕ → List (Option Held) → List ℕ → List (Option HandleRow)
rows_from number slots [] = []
rows_from number slots (place ∷ places) = row_in number (slot_at slots place) ∷ rows_from (suc number) slots places

-- the rows of all handles by number, with nothing where the place of one has no record of it
abbrev pub handles_of : List (Option Held) → List ℕ → List (Option HandleRow)
handles_of slots places = rows_from 0 slots places
