-- Number 0 makes the next pass, which then looks at the log.
use Rattle.std.proofs.Common.{◌∙◌, ap, sym, arith}
use Rattle.tier_lock.proofs.Cutting.{parts, looks}
use Rattle.tier_lock.proofs.parting.split_off.Goals as goal

pub split_seat-seat-requires : goal.split_seat-seat-requires
split_seat-seat-requires g c =
    let at = c.pass.view_is in
    let room = ap (λ p. p.room) at in
    (ap (λ p. p.table) at ∙ c.requires.lock ∙ ap (λ l. l.table) (sym c.lock.view_is), omega (arith, c.lock.invariant.0), parts _ _ _ g.N.Amount.amount _ c.pass.invariant.live (ap (λ p. p.number) at ∙ c.requires.first) (ap (λ p. p.turn) at ∙ c.requires.idle) (omega (arith, c.requires.amount, c.requires.fits, room)))

pub load-last-requires : goal.load-last-requires
load-last-requires g c =
    let e = c.split_seat-seat.ensures in
    (e.3 ∙ ap (λ p. p.table) c.pass.view_is ∙ c.requires.lock ∙ ap (λ l. l.table) (sym c.lock.view_is), omega (arith, c.lock.invariant.0), looks _ _ _ _ _ _ (ap (λ m. m.0.live) e.4))
