-- The rows of a tree in which last requests are settled.
use Rattle.std.specs.Prelude.{ℕ, List, [], ◌∷◌}
use Rattle.clk_model.specs.declared.row.ClockRow.{ClockRow}
use Rattle.clk_model.specs.State.{requested}

-- the rows where the last request of each of these clocks is its rate
abbrev pub settled_rows : (ℕ → ℕ) → List ClockRow → List ℕ → List ClockRow
settled_rows rates clocks [] = clocks
settled_rows rates clocks (c ∷ cs) = requested (settled_rows rates clocks cs) c (rates c)
