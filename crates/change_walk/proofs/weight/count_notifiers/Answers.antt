-- Clock by clock.
use Rattle.std.proofs.Common.{◌-◌, ◌^◌, ap, arith, length}
use Rattle.change_walk.specs.Tellings.{notifiers_at}
use Rattle.change_walk.proofs.Telling.{weighed_on, weighed_all}
use Rattle.change_walk.proofs.weight.count_notifiers.Goals as goal

pub loop-place-preserved : goal.loop-place-preserved
loop-place-preserved c = record {
  whole =
      weighed_on (λ x. length (notifiers_at c.args.notifiers.now x)) c.args.changed.now c.loop-place.place c.changed_at.result c.loop-place.sum c.saturating_add-sum.result (length c.chain-chain.result.now) (2 ^ 64 - 1) _
      c.changed_at.ensures (ap (λ ns. length ns) c.chain-chain.ensures.chain) c.saturating_add-sum.ensures c.loop-place.invariant.whole;
  small = let cut = c.saturating_add-sum.ensures in omega arith;
}

pub returns : goal.returns
returns c =
    weighed_all (λ x. length (notifiers_at c.args.notifiers.now x)) c.args.changed.now c.loop-place.place c.loop-place.sum (2 ^ 64 - 1) _
    c.loop-place-test.false c.loop-place.invariant.small c.loop-place.invariant.whole
