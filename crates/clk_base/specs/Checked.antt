-- What a checked description is, and why a description is refused.
use Rattle.std.specs.Prelude.{ℕ, ◌⊎◌}
use Rattle.clk_base.specs.declared.fault.DescFault.{DescFault}
use Rattle.clk_base.specs.declared.fault.DescFault.TheVariants.{TooMany, BadRange, FieldOutOfBank, FieldOverlap, Cycle, TooMuchWork, NoMemory}
use Rattle.clk_base.specs.Description.{Description}
use Rattle.clk_base.specs.Valid.{IsFirstBroken, counts, ranges, bank, apart, acyclic, levels, bounded}

-- a description, and the number of words of the bank that it was checked for
pub record Checked : Type 0 where
  pub defs : Description
  pub words : ℕ

-- why a description is refused: the fault names the first rule that a clock breaks, and the first
-- clock that breaks it; want of memory may come at any description
abbrev pub IsFault : ℕ → Description → DescFault → Type 0
IsFault words defs (TooMany c) = IsFirstBroken words defs counts c.0 ⊎ IsFirstBroken words defs levels c.0
IsFault words defs (BadRange c) = IsFirstBroken words defs ranges c.0
IsFault words defs (FieldOutOfBank c) = IsFirstBroken words defs bank c.0
IsFault words defs (FieldOverlap c) = IsFirstBroken words defs apart c.0
IsFault words defs (Cycle c) = IsFirstBroken words defs acyclic c.0
IsFault words defs (TooMuchWork c) = IsFirstBroken words defs bounded c.0
IsFault words defs NoMemory = Unit {0}
