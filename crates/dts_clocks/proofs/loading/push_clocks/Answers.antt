use Rattle.dts_clocks.proofs.Fresh.{next_fresh, rest_fresh, defs_more}
use Rattle.dts_clocks.proofs.loading.push_clocks.Goals as goal

pub push_clock-requires : goal.push_clock-requires
push_clock-requires c = next_fresh c.loop-clock.desc c.args.clocks.now c.loop-clock.clock-index c.clock-item.result c.loop-clock-test.true c.clock-item.is c.loop-clock.invariant.fresh

pub loop-clock-preserved : goal.loop-clock-preserved
loop-clock-preserved c =
    record {
      defs = defs_more c.args.desc.now c.loop-clock.desc c.push_clock.new.desc c.args.flags c.args.parents.now c.args.clocks.now c.loop-clock.clock-index c.clock-item.result c.loop-clock-test.true c.clock-item.is c.loop-clock.invariant.defs c.in_ok-push_clock.ensures;
      fresh = rest_fresh c.loop-clock.desc c.push_clock.new.desc c.args.flags c.args.parents.now c.args.clocks.now c.loop-clock.clock-index c.clock-item.result c.loop-clock-test.true c.clock-item.is c.in_ok-push_clock.ensures c.loop-clock.invariant.fresh;
    }
