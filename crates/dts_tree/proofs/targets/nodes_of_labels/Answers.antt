use Rattle.std.proofs.Common.{arith}
use Rattle.dts_tokens.specs.declared.token.Token.{Token}
use Rattle.dts_tree.specs.declared.rows.LabelRow.{LabelRow}
use Rattle.dts_tree.specs.Taken.{taken_of}
use Rattle.dts_tree.proofs.References.{node_of-insert}
use Rattle.dts_tree.proofs.targets.nodes_of_labels.Goals as goal

pub loop-label-preserved : goal.loop-label-preserved
loop-label-preserved c =
    let t : Token = record { from = 0; to = 0; line = 0 } in
    let d : LabelRow = record { name = t; node = 0 } in
    λ q. node_of-insert c.args.text.now c.args.labels.now c.loop-label.label-index d c.text_of.result.now (taken_of q) _ _ (omega arith) c.text_of.ensures (c.in_ok-insert.ensures.updates.0 q) (c.loop-label.invariant q)
