-- The least so far and those that are left.
use Rattle.std.proofs.Common.{◌≡◌, drop, nat_le}
use Rattle.kind_math.specs.Choices.{least}
use Rattle.kind_math.specs.Tables.{divisors_of, lesser}
use Rattle.kind_math.proofs.tables.least_divisor.Given as goal

abbrev pub invariant-loop-row : goal.invariant-loop-row
invariant-loop-row l = record {
  left : lesser (λ d. nat_le l.wanted d) l.found (divisors_of (drop l.row-index l.table)) ≡ least (λ d. nat_le l.wanted d) (divisors_of l.table);
}
