use Rattle.std.proofs.Common.{◌≡◌, ◌∷◌, [], ap, refl, sym, ◌∙◌, subst, arith, List}
use Rattle.kind_math.specs.declared.table_row.TableRow.{TableRow}
use Rattle.kind_math.specs.Tables.{IsTable}
use Rattle.parts_tests.proofs.Literal.{table_of_one_row}
use Rattle.parts_tests.proofs.closest.table_of_one_row.Goals as goal

pub expect_table-requires : goal.expect_table-requires
expect_table-requires g c = table_of_one_row c.row.result c.row.ensures
