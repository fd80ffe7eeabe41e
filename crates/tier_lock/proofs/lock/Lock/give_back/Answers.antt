-- The value is back in the slot that the pass has in hand, so the turn may end.
use Rattle.std.proofs.Common.{◌∙◌, ap, sym, arith}
use Rattle.tier_lock.proofs.Hands.{may_give_back}
use Rattle.tier_lock.proofs.lock.Lock.give_back.Goals as goal

pub fetch_sub-word-requires : goal.fetch_sub-word-requires
fetch_sub-word-requires g c =
    let r = c.refill.ensures in (
      r.same.0 ∙ ap (λ p. p.table) c.pass.view_is ∙ c.requires.lock ∙ ap (λ l. l.table) (sym c.self.view_is),
      omega (arith, c.self.invariant.0),
      may_give_back _ _ _ _ _ _ _ _ _ c.pass.inside.seat.me c.refill.new.seat.me c.args.guard.value record {
        view_is = c.pass.view_is;
        sits = c.pass.invariant;
        view = r.view;
        hand = r.hand;
        one = c.self.invariant.1;
      } record { turn = c.requires.turn; fixed_is = c.requires.fixed; same = c.requires.same },
    )
