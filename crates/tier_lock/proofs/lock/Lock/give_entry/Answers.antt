-- The value is back in the slot that the pass has in hand, so the word may go on with its entry.
use Rattle.std.proofs.Common.{◌∙◌, ap, sym, arith}
use Rattle.tier_lock.proofs.Hands.{may_give}
use Rattle.tier_lock.proofs.lock.Lock.give_entry.Goals as goal

pub fetch_add-word-requires : goal.fetch_add-word-requires
fetch_add-word-requires g c =
    let r = c.refill.ensures in (
      r.same.0 ∙ ap (λ p. p.table) c.pass.view_is ∙ c.requires.lock ∙ ap (λ l. l.table) (sym c.self.view_is),
      omega (arith, c.self.invariant.0),
      may_give _ _ _ _ _ _ _ _ _ c.pass.inside.seat.me c.refill.new.seat.me c.args.guard.value record {
        view_is = c.pass.view_is;
        sits = c.pass.invariant;
        view = r.view;
        hand = r.hand;
        one = c.self.invariant.1;
      } record {
        turn = c.requires.turn;
        fixed_is = c.requires.fixed;
        few = c.last_cost-cost.ensures.few;
        one_more = c.requires.one_more;
        driver = c.requires.driver;
        cost = c.requires.cost;
        tier = c.requires.tier;
      },
    )
