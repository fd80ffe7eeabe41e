use Rattle.std.proofs.Common.{None, arith}
use Rattle.dts_tokens.specs.declared.token.Token.{Token}
use Rattle.dts_tree.specs.declared.rows.NodeRow.{NodeRow}
use Rattle.dts_tree.specs.Tree.{seen_node}
use Rattle.dts_tree.proofs.Shown.{bare-more}
use Rattle.dts_tree.proofs.building.bare_nodes.Goals as goal

pub loop-row-preserved : goal.loop-row-preserved
loop-row-preserved c =
    let t : Token = record { from = 0; to = 0; line = 0 } in
    let d : NodeRow = record { name = t; parent = None } in
    λ shows. rw c.in_ok-push.ensures.items (bare-more seen_node c.loop-row.nodes.items c.in_ok-node.node c.args.text.now shows c.args.rows.now c.loop-row.row-index d (omega arith) (c.loop-row.invariant shows) (λ k. c.in_ok-node.ensures.node shows k))

pub bare_node-requires : goal.bare_node-requires
bare_node-requires c =
    let t : Token = record { from = 0; to = 0; line = 0 } in
    let d : NodeRow = record { name = t; parent = None } in
    c.requires c.loop-row.row-index d (omega arith)
