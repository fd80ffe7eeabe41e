use Rattle.std.proofs.Common.{rules, arith}
use Rattle.dts_clocks.specs.References.{node_of_phandle}
use Rattle.dts_clocks.proofs.Phandles.{phandle_more, phandle_all}
use Rattle.dts_clocks.proofs.chart.nodes_by_phandle.Goals as goal

pub loop-at-init : goal.loop-at-init
unfolding node_of_phandle
loop-at-init c = search rules

pub loop-at-preserved : goal.loop-at-preserved
loop-at-preserved c = λ v. phandle_more c.args.nodes.now c.loop-at.at c.node.result c.phandle.result _ _ v c.node.ensures c.phandle.ensures (c.loop-at.invariant v) (c.in_ok-note.ensures v)

pub returns : goal.returns
returns c = λ v. phandle_all c.args.nodes.now c.loop-at.at v _ (omega arith) (c.loop-at.invariant v)
