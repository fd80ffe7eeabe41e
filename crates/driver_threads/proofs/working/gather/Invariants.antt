use Rattle.std.proofs.Common.{◌≡◌, ◌++◌, Some, length, map}
use Rattle.std.specs.Vec.Iter.{into_iter_items, into_iter_len}
use Rattle.driver_threads.proofs.working.gather.Given as goal

-- the drivers so far and their answers are gathered, and the others are still to come
abbrev pub invariant-loop-worker : goal.invariant-loop-worker
invariant-loop-worker g l = record {
  drivers : l.drivers.items ≡ l.initial.drivers.items ++ map (λ w. w.driver) l.yielded;
  answers : map Some l.answers.items ≡ map Some l.initial.answers.items ++ map (λ w. w.answers) l.yielded;
  items : l.yielded ++ into_iter_items l.worker-iterator ≡ into_iter_items l.initial.worker-iterator;
  left : into_iter_len l.worker-iterator ≡ length (into_iter_items l.worker-iterator);
}
