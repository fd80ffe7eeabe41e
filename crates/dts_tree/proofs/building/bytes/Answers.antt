use Rattle.std.proofs.Common.{arith}
use Rattle.dts_tree.specs.Tree.{byte_in}
use Rattle.dts_tree.proofs.Shown.{filter_map-next}
use Rattle.dts_tree.proofs.building.bytes.Goals as goal

pub loop-item-preserved : goal.loop-item-preserved
loop-item-preserved c = filter_map-next byte_in c.args.items.now c.loop-item.item-index _ _ _ _ (omega arith) c.in_ok-push_some.ensures.pushed c.byte.ensures c.loop-item.invariant
