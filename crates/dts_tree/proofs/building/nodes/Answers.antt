use Rattle.dts_tree.specs.State.{state_of}
use Rattle.dts_tree.specs.Tree.{property_in, tree_of}
use Rattle.dts_tree.proofs.building.nodes.Goals as goal

pub returns-clause-nodes : goal.returns-clause-nodes
unfolding tree_of property_in
returns-clause-nodes c =
    let shows = property_in c.args.text.now (state_of c.args.reader.now).tables c.args.targets.now in
    rw (← c.as_slice-rows.ensures.value, ← c.as_slice-properties.ensures.value) (c.in_ok-fill.ensures.filled c.as_slice-rows.result.now (c.in_ok-nodes.ensures.nodes shows))
