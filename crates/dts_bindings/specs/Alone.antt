-- Numbers told by the first cells.
use Rattle.std.specs.Prelude.{ℕ, Option, Some, None}
use Rattle.dts_tree.specs.declared.tree.Cell.{Cell}
use Rattle.dts_tree.specs.declared.tree.Cell.TheVariants as cells

-- the number that the first cell is, where there is no second
abbrev pub alone : Option Cell → Option Cell → Option ℕ
alone (Some (cells.Number n)) None = Some n
alone first second = None

-- the numbers that the first two cells are, where there is no third
abbrev pub two_alone : Option Cell → Option Cell → Option Cell → Option (ℕ × ℕ)
two_alone (Some (cells.Number n)) (Some (cells.Number m)) None = Some (n, m)
two_alone first second third = None
