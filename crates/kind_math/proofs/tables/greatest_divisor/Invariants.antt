-- The greatest so far and those that are left.
use Rattle.std.proofs.Common.{◌≡◌, drop, max}
use Rattle.std.specs.List.{fold}
use Rattle.kind_math.specs.Choices.{greatest_of}
use Rattle.kind_math.specs.Tables.{divisors_of}
use Rattle.kind_math.proofs.tables.greatest_divisor.Given as goal

abbrev pub invariant-loop-row : goal.invariant-loop-row
invariant-loop-row l = record {
  left : fold max l.greatest (divisors_of (drop l.row-index l.table)) ≡ greatest_of (divisors_of l.table);
}
