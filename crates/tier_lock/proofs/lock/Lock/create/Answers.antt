-- The table opens under its rule, and its first seat gives the baton away.
use Rattle.std.proofs.Common.{rules, ap, arith}
use Rattle.tier_lock.proofs.Opening.{opens}
use Rattle.tier_lock.proofs.Cutting.{looses}
use Rattle.tier_lock.proofs.lock.Lock.create.Goals as goal

pub new-requires : goal.new-requires
new-requires g c = opens _ c.args.value c.push.new.self.items c.of-key.result.value (search rules) c.of-key.ensures c.requires

pub split_seat-requires : goal.split_seat-requires
split_seat-requires g c =
    let o = c.in-Ok.ensures.ok in
    (o.2, omega (arith, o.0), looses _ _ _ _ (ap (λ m. m.0.baton) o.4) (ap (λ m. m.0.beside) o.4) (ap (λ m. m.0.turn) o.4))
