-- All passes have ended, and the baton's seat kept what each had.
use Rattle.std.proofs.Common.{ap, refl}
use Rattle.tier_lock.proofs.AllPasses.{all_ended, says}
use Rattle.tier_lock.proofs.lock.Lock.close.Goals as goal

pub value_of-requires-clause-all : goal.value_of-requires-clause-all
value_of-requires-clause-all g c = all_ended _ c.baton.inside.seat.me.0 _ _ c.end_all.ensures.view c.baton.invariant.ended_is c.requires.all

pub returns : goal.returns
returns g c =
    let b = c.baton.invariant in
    let s = says _ _ _ c.args.passes.items _ c.baton.inside.seat.me.0 _ _ _ c.value_of.result c.end_all.ensures.view b.ended_is b.room_is c.baton.view_is (ap (λ l. l.fixed) c.self.view_is) c.value_of.ensures in
    record {
      closes = refl;
      fixed = s.fixed_is;
      seen = s.seen;
      mine = s.mine;
      numbers = s.numbers;
      pass_fixed = s.pass_fixed;
      baton_fixed = s.baton_fixed;
      behind = s.behind;
      room = s.room;
    }
