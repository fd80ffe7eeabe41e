-- The passes so far have ended, and the others are still to come.
use Rattle.std.proofs.Common.{◌≡◌, ◌++◌, length}
use Rattle.std.specs.Vec.Iter.{into_iter_items, into_iter_len}
use Rattle.tier_lock.specs.Closing.{with_passes}
use Rattle.tier_lock.proofs.closing.end_all.Given as goal

abbrev pub invariant-loop-pass : goal.invariant-loop-pass
invariant-loop-pass g l = record {
  table : l.keeper.table_id ≡ l.initial.keeper.table_id;
  number : l.keeper.id ≡ l.initial.keeper.id;
  view : l.keeper.me ≡ (with_passes l.yielded l.initial.keeper.me.0, l.initial.keeper.me.1);
  items : l.yielded ++ into_iter_items l.pass-iterator ≡ into_iter_items l.initial.pass-iterator;
  left : into_iter_len l.pass-iterator ≡ length (into_iter_items l.pass-iterator);
}
