-- The row is sought among those that are left.
use Rattle.std.proofs.Common.{◌≡◌, drop, nat_eq}
use Rattle.std.specs.List.{find}
use Rattle.std.specs.Option.{option_map_or}
use Rattle.kind_math.specs.Tables.{value_of}
use Rattle.kind_math.proofs.tables.value_of.Given as goal

abbrev pub invariant-loop-row : goal.invariant-loop-row
invariant-loop-row l = record {
  left : option_map_or (λ row. row.value) (find (λ row. nat_eq row.div l.div) (drop l.row-index l.table)) 0 ≡ value_of l.table l.div;
}
