-- What a tree says, and what every tree keeps.
use Rattle.std.specs.Prelude.{◌≡◌, ℕ, List, true, Option, Some, length, slice_set}
use Rattle.clk_base.specs.declared.clock.ClockId.{ClockId}
use Rattle.clk_base.specs.Description.{Description}
use Rattle.clk_model.specs.declared.row.ClockRow.{ClockRow}
use Rattle.clk_model.specs.State.{row_of, registered, link_in}
use Rattle.clk_model.specs.Wired.{LinesEnd, LinksArePossible, ListsRegistered}

-- a tree: the number of words of the bank that its description was checked for, its description, the rows of the clocks,
-- the registered clocks with the newest attached first, and the kept rates
pub record TreeState : Type 0 where
  pub words : ℕ
  pub defs : Description
  pub clocks : List ClockRow
  pub order : List ℕ
  pub rates : List ℕ

-- what every tree keeps
pub record IsTree (defs : Description) (clocks : List ClockRow) (order rates : List ℕ) : Type 0 where
  -- each clock has a row and a kept rate
  pub rows : length clocks ≡ length defs
  pub rated : length rates ≡ length defs
  -- each line of possible parents ends
  pub lines : LinesEnd defs
  -- a clock with a link is registered, and its link is registered and one of its possible parents
  pub linked : (c p : ℕ) → link_in clocks c ≡ Some p → registered clocks c ≡ true
  pub links : (c p : ℕ) → link_in clocks c ≡ Some p → registered clocks p ≡ true
  pub possible : LinksArePossible defs clocks
  -- the order of attaching lists the registered clocks and no other, each once
  pub order_lists : ListsRegistered order clocks

-- the rows with a clock registered and linked to this parent, or to none
abbrev pub attached : List ClockRow → ℕ → Option ClockId → List ClockRow
attached clocks c parent = slice_set clocks c (record (row_of clocks c) { registered = true; link = parent })
