-- A pass with the baton may give it away.
use Rattle.std.proofs.Common.{◌∙◌, ap, sym, arith}
use Rattle.tier_lock.proofs.Cutting.{looses}
use Rattle.tier_lock.proofs.lock.Lock.hand_back.Goals as goal

pub split_seat-seat-requires : goal.split_seat-seat-requires
split_seat-seat-requires g c =
    let at = c.pass.view_is in
    (ap (λ p. p.table) at ∙ c.requires.lock ∙ ap (λ l. l.table) (sym c.self.view_is), omega (arith, c.self.invariant.0), looses _ _ _ _ (ap (λ p. p.baton) at ∙ c.requires.baton) c.pass.invariant.alone (ap (λ p. p.turn) at ∙ c.requires.idle))
