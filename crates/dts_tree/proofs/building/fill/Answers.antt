use Rattle.std.proofs.Common.{arith}
use Rattle.dts_tokens.specs.declared.token.Token.{Token}
use Rattle.dts_tree.specs.declared.rows.PropertyRow.{PropertyRow}
use Rattle.dts_tree.specs.State.{state_of}
use Rattle.dts_tree.specs.Tree.{property_in}
use Rattle.dts_tree.proofs.Shown.{nodes_in-more}
use Rattle.dts_tree.proofs.building.fill.Goals as goal

pub loop-row-preserved : goal.loop-row-preserved
loop-row-preserved c =
    let t : Token = record { from = 0; to = 0; line = 0 } in
    let d : PropertyRow = record { node = 0; name = t; from = 0; to = 0 } in
    λ bare h. nodes_in-more c.args.text.now (property_in c.args.text.now (state_of c.args.reader.now).tables c.args.targets.now) c.args.rows.now c.loop-row.row-index d bare _ _ _ (omega arith)
    (c.loop-row.invariant bare h) c.in_ok-property.ensures.property c.in_ok-add.ensures.added
