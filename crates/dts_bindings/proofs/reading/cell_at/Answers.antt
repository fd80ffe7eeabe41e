use Rattle.std.proofs.Common.{arith}
use Rattle.dts_bindings.proofs.Joining.{cell-here, cell-behind}
use Rattle.dts_bindings.proofs.reading.cell_at.Goals as goal

pub returns-then-left-cells : goal.returns-then-left-cells
returns-then-left-cells c =
    cell-here c.args.values.now c.loop-value.value-index c.loop-value.left c.args.place c.value-item.result c.value_cells-cells.result.now _
    (omega arith) c.value-item.is c.value_cells-cells.ensures c.if-left-cells.true c.loop-value.invariant

pub loop-value-preserved : goal.loop-value-preserved
loop-value-preserved c =
    cell-behind c.args.values.now c.loop-value.value-index c.loop-value.left c.args.place c.value-item.result c.value_cells-cells.result.now
    (omega arith) c.value-item.is c.value_cells-cells.ensures c.if-left-cells.false c.loop-value.invariant
