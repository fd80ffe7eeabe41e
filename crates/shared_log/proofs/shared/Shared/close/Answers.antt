use Rattle.std.proofs.Common.{◌≡◌, Some, sym, ap, ◌∙◌, arith}
use Rattle.tier_lock.specs.Entries.{own, IsPrefix, AreBelow}
use Rattle.tier_lock.specs.Known.{IsIdle}
use Rattle.shared_log.proofs.Alike.{all_alike, are_all_alike, rooms_alike}
use Rattle.shared_log.proofs.shared.Shared.close.Goals as goal

pub close-requires-clause-idle : goal.close-requires-clause-idle
close-requires-clause-idle g c =
    all_alike c.args.passes.items c.take_baton-baton.new.passes.items (sym c.take_baton-baton.ensures.same) (λ p. IsIdle c.self.inside.lock.table p)
    (λ p idle. record { table_is = idle.table_is; turn = idle.turn }) (λ p idle. record { table_is = idle.table_is; turn = idle.turn })
    (λ k d low. record { table_is = (c.requires.ready k d low).table_is ∙ sym (ap (λ l. l.table) c.self.view_is); turn = (c.requires.ready k d low).turn })

pub close-requires-clause-all : goal.close-requires-clause-all
close-requires-clause-all g c = are_all_alike c.args.passes.items c.take_baton-baton.new.passes.items (sym c.take_baton-baton.ensures.same) c.requires.all

pub returns-clause-known : goal.returns-clause-known
returns-clause-known g c =
    all_alike c.take_baton-baton.new.passes.items c.args.passes.items c.take_baton-baton.ensures.same (λ p. p.fixed ≡ Some (g.T.Kept.fixed c.in-Ok.core))
    (λ p h. h) (λ p h. h) c.in-Ok.ensures.pass_fixed

pub returns-clause-seen : goal.returns-clause-seen
returns-clause-seen g c =
    all_alike c.take_baton-baton.new.passes.items c.args.passes.items c.take_baton-baton.ensures.same (λ p. IsPrefix p.seen (g.T.Kept.entries c.in-Ok.core))
    (λ p h. h) (λ p h. h) c.in-Ok.ensures.seen

pub returns-clause-mine : goal.returns-clause-mine
returns-clause-mine g c =
    all_alike c.take_baton-baton.new.passes.items c.args.passes.items c.take_baton-baton.ensures.same (λ p. own g.T.Kept.by p.number (g.T.Kept.entries c.in-Ok.core) ≡ p.mine)
    (λ p h. h) (λ p h. h) c.in-Ok.ensures.mine

pub returns-clause-numbers : goal.returns-clause-numbers
returns-clause-numbers g c =
    all_alike c.take_baton-baton.new.passes.items c.args.passes.items c.take_baton-baton.ensures.same (λ p. p.number ≡ 0 → AreBelow g.T.Kept.by p.made (g.T.Kept.entries c.in-Ok.core))
    (λ p h. h) (λ p h. h) c.in-Ok.ensures.numbers

pub returns-clause-room : goal.returns-clause-room
returns-clause-room g c =
    omega (arith, rooms_alike c.take_baton-baton.new.passes.items c.args.passes.items c.take_baton-baton.ensures.same, c.in-Ok.ensures.room)
