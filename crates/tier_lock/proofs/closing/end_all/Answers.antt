-- Each pass of the lock holds no turn, so it may end.
use Rattle.std.proofs.Common.{◌≡◌, ◌∷◌, ◌++◌, ◌∙◌, sym, ap, arith}
use Rattle.std.specs.Vec.Iter.{into_iter_items}
use Rattle.tier_lock.specs.Known.{IsIdle}
use Rattle.tier_lock.specs.Sits.{in_hand}
use Rattle.tier_lock.proofs.Ending.{ends}
use Rattle.tier_lock.proofs.AllPasses.{all_between}
use Rattle.tier_lock.proofs.closing.end_all.Goals as goal

pub join_seat-requires : goal.join_seat-requires
join_seat-requires g c =
    let i = c.loop-pass.invariant in
    let p = c.pass.invariant in
    let kept = c.requires.keeper in
    let split : c.args.passes.items ≡ c.loop-pass.yielded ++ (c.in-Some.pass ∷ into_iter_items c.next.new.self) = sym c.into_iter-pass-iterator.ensures.into_iter_gives.0 ∙ sym i.items ∙ ap (λ l. c.loop-pass.yielded ++ l) c.in-Some.ensures.steps.0 in
    let idle : IsIdle c.args.shared.now.table_id c.in-Some.pass = all_between (λ p. IsIdle c.args.shared.now.table_id p) c.loop-pass.yielded c.in-Some.pass _ _ split c.requires.idle in
    let calm = ap (λ p. p.turn) c.pass.view_is ∙ idle.turn in (
      i.table ∙ c.requires.table.table,
      ap (λ p. p.table) c.pass.view_is ∙ idle.table_is,
      p.hand ∙ ap (λ t. in_hand t) calm,
      omega (arith, c.requires.table.words),
      ends _ _ _ _ _ _ (ap (λ m. m.0.live) i.view ∙ kept.dead) (ap (λ m. m.0.turn) i.view ∙ kept.idle) p.live calm,
    )
