-- A take that wins keeps the rule; then the slot is the pass's.
use Rattle.std.proofs.Common.{ap, Some, ◌∙◌, arith}
use Rattle.tier_lock.proofs.Turning.{wins}
use Rattle.tier_lock.proofs.Hands.{one_in_hand}
use Rattle.tier_lock.proofs.taking.try_take.Goals as goal

pub compare_exchange-found-requires : goal.compare_exchange-found-requires
compare_exchange-found-requires g c =
    let t = c.requires.table in
    let f = c.requires.free in
    (t.table, omega (arith, t.words), wins _ _ g.N.Fixes.fixed c.requires.named _ _ _ _ c.args.word f.hand f.live f.alone c.if-word-ne0.false)

pub exchange-requires : goal.exchange-requires
exchange-requires g c =
    let e = c.compare_exchange-found.ensures in
    let won = e.2.won c.if-found-word.false in
    (e.0 ∙ c.requires.table.table, (Some won.value, one_in_hand _ _ (ap (λ m. m.1) won.seat)))
