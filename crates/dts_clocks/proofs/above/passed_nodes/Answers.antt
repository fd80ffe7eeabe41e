use Rattle.dts_clocks.specs.Above.{is_passed}
use Rattle.dts_clocks.proofs.Joins.{listed_none, listed_push}
use Rattle.dts_clocks.proofs.above.passed_nodes.Goals as goal

pub loop-at-init : goal.loop-at-init
loop-at-init c = listed_none (is_passed c.args.nodes.now) _ c.new-passed.ensures.items

pub loop-at-preserved : goal.loop-at-preserved
loop-at-preserved c = listed_push (is_passed c.args.nodes.now) _ _ c.loop-at.at _ c.loop-at.invariant c.is_passed-is_passed.ensures c.in_ok-push.ensures.items
