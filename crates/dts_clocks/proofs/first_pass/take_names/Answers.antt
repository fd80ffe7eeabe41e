use Rattle.std.proofs.Common.{ap, not, sym, ◌∙◌, arith}
use Rattle.dts_clocks.proofs.Twins.{twin_found, twin_next, names_more, twin_none}
use Rattle.dts_clocks.proofs.first_pass.take_names.Goals as goal

pub returns-then-not-branch-clause-fresh : goal.returns-then-not-branch-clause-fresh
returns-then-not-branch-clause-fresh c =
    ap not (sym (c.loop-clock.invariant.twins ∙ twin_found c.loop-clock.taken c.args.clocks.now c.loop-clock.clock-index c.clock-item.result c.as_str.result.now _ (omega arith) c.clock-item.is c.as_str.ensures.value c.in_ok-take.ensures.fresh c.if-not-branch.true))

pub loop-clock-preserved : goal.loop-clock-preserved
loop-clock-preserved c =
    let more = rw c.if-not-branch.false at c.in_ok-take.ensures.taken in
    record {
      taken = names_more c.args.taken.now c.loop-clock.taken _ c.args.clocks.now c.loop-clock.clock-index c.clock-item.result c.as_str.result.now (omega arith) c.clock-item.is c.as_str.ensures.value more c.loop-clock.invariant.taken;
      twins = c.loop-clock.invariant.twins ∙ twin_next c.loop-clock.taken _ c.args.clocks.now c.loop-clock.clock-index c.clock-item.result c.as_str.result.now _ (omega arith) c.clock-item.is c.as_str.ensures.value c.in_ok-take.ensures.fresh c.if-not-branch.false more;
    }

pub returns-clause-fresh : goal.returns-clause-fresh
returns-clause-fresh c = ap not (sym (c.loop-clock.invariant.twins ∙ twin_none c.loop-clock.taken c.args.clocks.now c.loop-clock.clock-index (omega arith)))
