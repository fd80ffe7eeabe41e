-- Counts of PLLs, clock by clock.
use Rattle.std.specs.Prelude.{◌≡◌, ℕ, ◌<◌, List, length, slice_index}
use Rattle.clk_base.specs.Description.{Description}
use Rattle.clk_model.specs.Script.{plls_within}

-- for each clock, the greatest number of PLLs on a line of possible parents that begins at it, where lines are cut after so many clocks
pub record TellsPlls (defs : Description) (levels : ℕ) (counts : List ℕ) : Type 0 where
  pub each : length counts ≡ length defs
  pub told : (c : ℕ) → c < length defs → slice_index counts c ≡ plls_within defs levels c
