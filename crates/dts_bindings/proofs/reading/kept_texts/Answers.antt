use Rattle.std.proofs.Common.{arith}
use Rattle.dts_tree.proofs.Shown.{map_some}
use Rattle.dts_bindings.proofs.Joining.{texts-next}
use Rattle.dts_bindings.proofs.reading.kept_texts.Goals as goal

pub loop-value-preserved : goal.loop-value-preserved
loop-value-preserved c =
    texts-next c.args.values.now c.loop-value.value-index c.value-item.result _ _ _
    (omega arith) c.value-item.is c.value_text.ensures (map_some (λ t. t.now) _ _ _ c.in_ok-push_some.ensures.pushed) c.loop-value.invariant
