use Rattle.std.proofs.Common.{arith}
use Rattle.dts_clocks.proofs.Linking.{there_more, there_none, there_all}
use Rattle.dts_clocks.proofs.second_pass.all_there.Goals as goal

pub returns-in_default : goal.returns-in_default
returns-in_default c = there_none c.args.clocks.now c.loop-clock.clock-index _ c.loop-clock.there.items c.loop-clock-test.true c.in_default.is c.loop-clock.invariant

pub loop-clock-preserved : goal.loop-clock-preserved
loop-clock-preserved c = there_more c.args.clocks.now c.loop-clock.clock-index _ c.in-Some.clock c.loop-clock.there.items _ c.loop-clock-test.true c.in-Some.is c.in_ok-push.ensures.items c.loop-clock.invariant

pub returns : goal.returns
returns c = there_all c.args.clocks.now c.loop-clock.clock-index c.loop-clock.there.items (omega arith) c.loop-clock.invariant
