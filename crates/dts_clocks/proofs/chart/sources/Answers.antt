use Rattle.dts_clocks.specs.References.{source_at}
use Rattle.dts_clocks.proofs.Joins.{listed_none, listed_push}
use Rattle.dts_clocks.proofs.chart.sources.Goals as goal

pub loop-at-init : goal.loop-at-init
loop-at-init c = listed_none (source_at c.args.nodes.now) _ c.new-sources.ensures.items

pub loop-at-preserved : goal.loop-at-preserved
loop-at-preserved c = listed_push (source_at c.args.nodes.now) _ _ c.loop-at.at _ c.loop-at.invariant c.source_at-source.ensures c.in_ok-push.ensures.items
