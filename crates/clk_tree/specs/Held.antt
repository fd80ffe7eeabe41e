-- What the fields of a tree keep.
use Rattle.std.specs.Prelude.{◌≡◌, ℕ, ◌<◌, List, Bool, false, length, slice_index}
use Rattle.clk_base.specs.Description.{Description}
use Rattle.clk_model.specs.declared.row.ClockRow.{ClockRow}
use Rattle.clk_model.specs.Script.{plls}
use Rattle.clk_model.specs.State.{registered}
use Rattle.clk_tree.specs.Groups.{AreListed}
use Rattle.clk_tree.specs.Rings.{ring_of}
use Rattle.clk_tree.specs.Rooted.{TellsRooted}
use Rattle.clk_tree.specs.TreeState.{IsTree}

-- the fields make a tree, whose order the ring of turns has; each group of clocks has its ring, and a clock that isn't registered is
-- alone; the most PLLs are counted; and the flags tell which clocks are rooted
pub record IsHeld (defs : Description) (clocks : List ClockRow) (rates turns siblings : List ℕ) (most : ℕ) (flags : List Bool) : Type 0 where
  pub tree : IsTree defs clocks (ring_of turns (length defs)) rates
  pub listed : AreListed defs clocks (ring_of turns (length defs)) turns siblings
  pub alone : (c : ℕ) → c < length defs → registered clocks c ≡ false → slice_index siblings c ≡ c
  pub counted : most ≡ plls defs
  pub rooted : TellsRooted defs clocks flags
