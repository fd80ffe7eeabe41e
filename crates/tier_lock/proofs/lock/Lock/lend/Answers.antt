-- The baton's seat is joined to the pass's, and the load behind it tells which of the two has seen more.
use Rattle.std.proofs.Common.{◌∙◌, ap, sym, arith}
use Rattle.tier_lock.proofs.Joining.{lends}
use Rattle.tier_lock.proofs.Lent.{settles_lent, told, sits_lent, lent_to}
use Rattle.tier_lock.proofs.lock.Lock.lend.Goals as goal

pub join_seat-requires : goal.join_seat-requires
join_seat-requires g c =
    let at = c.pass.view_is in
    let here = ap (λ l. l.table) (sym c.self.view_is) in
    let b = c.baton.invariant in (
      ap (λ p. p.table) at ∙ c.requires.lock ∙ here,
      ap (λ p. p.table) c.baton.view_is ∙ c.requires.baton ∙ here,
      b.hand,
      omega (arith, c.self.invariant.0),
      lends _ _ _ _ _ _ (ap (λ p. p.turn) at ∙ c.requires.idle) b.idle b.has b.alone b.room_is,
    )

pub load-requires : goal.load-requires
load-requires g c =
    let at = c.pass.view_is in
    let here = ap (λ l. l.table) (sym c.self.view_is) in
    let j = c.join_seat.ensures in
    (j.0 ∙ ap (λ p. p.table) at ∙ c.requires.lock ∙ here, omega (arith, c.self.invariant.0), settles_lent _ _ _ _ c.pass.inside.seat.me.0 c.baton.inside.seat.me.0 _ _ j.2 c.pass.invariant.live (ap (λ p. p.turn) at ∙ c.requires.idle))

pub invariant_of-pass : goal.invariant_of-pass
invariant_of-pass g c = sits_lent _ _ _ _ c.pass.inside.seat.me c.baton.inside.seat.me.0 _ c.pass.invariant (told _ c.pass.inside.seat.me.0 c.baton.inside.seat.me.0 c.pass.inside.seat.me.1 _ _ c.join_seat.ensures.2 c.load.ensures.2)

pub returns : goal.returns
returns g c =
    let s = lent_to _ _ _ _ c.pass.inside.seat.me.0 c.baton.inside.seat.me.0 c.pass.inside.seat.me.1 c.load.new.seat.me _ _ (c.load.ensures.0 ∙ c.join_seat.ensures.0) c.pass.view_is c.baton.view_is
    (told _ c.pass.inside.seat.me.0 c.baton.inside.seat.me.0 c.pass.inside.seat.me.1 _ _ c.join_seat.ensures.2 c.load.ensures.2) in
    record { lent = s.lent; seen = s.seen; baton_seen = s.baton_seen; behind = s.behind; mine = s.mine; fixed = s.fixed }
