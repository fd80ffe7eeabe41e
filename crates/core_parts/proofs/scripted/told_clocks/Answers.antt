-- Clock by clock.
use Rattle.std.proofs.Common.{arith}
use Rattle.core_parts.specs.Course.{notifiers_at}
use Rattle.core_parts.proofs.Added.{told_on, told_end}
use Rattle.core_parts.proofs.scripted.told_clocks.Goals as goal

pub loop-place-preserved : goal.loop-place-preserved
loop-place-preserved c =
    told_on (notifiers_at c.args.notifiers.now) c.args.tree.now.rates c.args.rates.now c.loop-place.place c.rate_at-entry.result c.loop-place.told.items c.push_told.new.told.items _ c.rate_at-entry.ensures.at
    c.in_ok-push_told.ensures c.loop-place.invariant

pub returns : goal.returns
returns c =
    told_end (notifiers_at c.args.notifiers.now) c.args.tree.now.rates c.args.rates.now c.loop-place.place c.loop-place.told.items _ (let past = c.loop-place-test.false in omega arith) c.loop-place.invariant
