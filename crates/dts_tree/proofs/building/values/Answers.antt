use Rattle.std.proofs.Common.{arith}
use Rattle.dts_tree.specs.Tree.{seen_value, value_in}
use Rattle.dts_tree.proofs.Shown.{filter_map-seen}
use Rattle.dts_tree.proofs.building.values.Goals as goal

pub loop-row-preserved : goal.loop-row-preserved
loop-row-preserved c = filter_map-seen (value_in c.args.text.now c.args.items.now c.args.targets.now) seen_value c.args.rows.now c.loop-row.row-index _ _ _ _ (omega arith) c.in_ok-push_some.ensures.pushed c.in_ok-value.ensures.value c.loop-row.invariant
