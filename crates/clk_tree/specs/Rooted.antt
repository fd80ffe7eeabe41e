-- Kept flags: which clocks are rooted.
use Rattle.std.specs.Prelude.{◌≡◌, ℕ, ◌||◌, List, Bool, false, Option, length}
use Rattle.std.specs.Option.{option_map_or}
use Rattle.clk_base.specs.declared.clock.ClockId.{ClockId}
use Rattle.clk_base.specs.Description.{Description, kind_of}
use Rattle.clk_base.specs.Tables.{flag_at}
use Rattle.clk_model.specs.declared.row.ClockRow.{ClockRow}
use Rattle.clk_model.specs.Kinds.{is_fixed}
use Rattle.clk_model.specs.Tree.{rooted}

-- for each clock, whether it is registered and its path ends in a fixed-rate clock
pub record TellsRooted (defs : Description) (clocks : List ClockRow) (flags : List Bool) : Type 0 where
  pub each : length flags ≡ length defs
  pub told : (c : ℕ) → flag_at flags c ≡ rooted defs clocks c

-- whether a clock that is attached to this parent, or to none, is rooted by the flags: it is fixed, or its parent's flag is set
abbrev pub rooted_over : Description → List Bool → ℕ → Option ClockId → Bool
rooted_over defs flags c parent = is_fixed (kind_of defs c) || option_map_or (λ p. flag_at flags p.0) parent false
