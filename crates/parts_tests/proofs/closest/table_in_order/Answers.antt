use Rattle.std.proofs.Common.{◌≡◌, ◌∷◌, [], ap, refl, sym, ◌∙◌, subst, arith, List}
use Rattle.kind_math.specs.declared.table_row.TableRow.{TableRow}
use Rattle.kind_math.specs.Tables.{IsTable}
use Rattle.parts_tests.proofs.Literal.{table_in_order}
use Rattle.parts_tests.proofs.closest.table_in_order.Goals as goal

pub expect_table-requires : goal.expect_table-requires
expect_table-requires g c = table_in_order c.row.result c.row-2.result c.row-3.result c.row.ensures c.row-2.ensures c.row-3.ensures
