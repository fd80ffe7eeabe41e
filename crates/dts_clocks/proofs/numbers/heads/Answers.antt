use Rattle.std.proofs.Common.{length, arith}
use Rattle.dts_clocks.proofs.Numbering.{bound_within, heads_more, heads_none, heads_all}
use Rattle.dts_clocks.proofs.numbers.heads.Goals as goal

pub loop-at-init : goal.loop-at-init
loop-at-init c = heads_none c.args.chart.now _ c.new-heads.ensures.items

pub bounds-bindings-at : goal.bounds-bindings-at
bounds-bindings-at c = bound_within c.args.chart.now (length c.args.chart.now) c.loop-at.at c.args.bindings.now c.requires (omega arith)

pub loop-at-preserved : goal.loop-at-preserved
loop-at-preserved c = heads_more c.args.chart.now (length c.args.chart.now) c.loop-at.at c.args.bindings.now c.index-bindings-at.result _ _ c.requires (omega arith) c.index-bindings-at.is c.loop-at.invariant c.in_ok-push_bound.ensures

pub returns : goal.returns
returns c = heads_all c.args.chart.now c.loop-at.at _ (omega arith) c.loop-at.invariant

pub offset_bounds-bindings-at : goal.offset_bounds-bindings-at
offset_bounds-bindings-at c =
    let low = bound_within c.args.chart.now (length c.args.chart.now) c.loop-at.at c.args.bindings.now c.requires (omega arith) in
    omega arith
