-- Nobody holds the turn, so the slot has the value.
use Rattle.tier_lock.proofs.Ending.{closed_slot, closed_value}
use Rattle.tier_lock.proofs.closing.value_of.Goals as goal

pub unreachable-requires : goal.unreachable-requires
unreachable-requires g c =
    let k = c.requires.keeper in
    let r = closed_slot _ _ _ c.args.keeper.me.0 _ _ c.take-slot.result c.close_with-closed.ensures.values.2 k.has k.alone c.requires.all c.take-slot.ensures.value in
    c.in_default.not-Some r.value r.is

pub returns : goal.returns
returns g c =
    let k = c.requires.keeper in
    let r = closed_slot _ _ _ c.args.keeper.me.0 _ _ c.take-slot.result c.close_with-closed.ensures.values.2 k.has k.alone c.requires.all c.take-slot.ensures.value in
    closed_value _ _ c.args.keeper.me.0 _ _ r c.in-Some.is
