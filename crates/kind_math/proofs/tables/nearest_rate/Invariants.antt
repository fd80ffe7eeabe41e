-- The nearest rate so far and those of the rows that are left.
use Rattle.std.proofs.Common.{◌≡◌, drop}
use Rattle.std.specs.List.{fold}
use Rattle.kind_math.specs.Closest.{nearer, nearest, rates_by}
use Rattle.kind_math.specs.Tables.{divisors_of}
use Rattle.kind_math.proofs.tables.nearest_rate.Given as goal

abbrev pub invariant-loop-row : goal.invariant-loop-row
invariant-loop-row l = record {
  left : fold (nearer l.wanted) l.near (rates_by l.parent (divisors_of (drop l.row-index l.table))) ≡ nearest l.wanted (rates_by l.parent (divisors_of l.table));
}
