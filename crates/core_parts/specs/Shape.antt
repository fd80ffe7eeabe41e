-- Links that stay within a description.
use Rattle.std.specs.Prelude.{◌≡◌, ℕ, ◌<◌, List, Some, length}
use Rattle.clk_base.specs.Description.{Description}
use Rattle.clk_model.specs.declared.row.ClockRow.{ClockRow}
use Rattle.clk_model.specs.State.{link_in}

-- each link leads to a clock of the description
pub record LinksLie (defs : Description) (clocks : List ClockRow) : Type 0 where
  pub lie : (c p : ℕ) → link_in clocks c ≡ Some p → p < length defs
