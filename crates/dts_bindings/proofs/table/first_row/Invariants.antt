use Rattle.std.proofs.Common.{◌≡◌, map, drop}
use Rattle.std.specs.List.{filter_map}
use Rattle.dts_tree.specs.Tree.{seen_value}
use Rattle.dts_bindings.specs.Table.{row_in}
use Rattle.dts_bindings.proofs.table.first_row.Given as goal

-- no value so far names a row
abbrev pub invariant-loop-value : goal.invariant-loop-value
invariant-loop-value l = filter_map row_in (map seen_value l.values) ≡ filter_map row_in (map seen_value (drop l.value-index l.values))
