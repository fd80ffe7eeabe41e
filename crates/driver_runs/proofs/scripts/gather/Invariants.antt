use Rattle.std.proofs.Common.{◌≡◌, ◌++◌, map}
use Rattle.std.specs.Vec.Iter.{into_iter_items}
use Rattle.driver_runs.proofs.scripts.gather.Given as goal

-- the answers so far are gathered, and the others are still to come
abbrev pub invariant-loop-standing : goal.invariant-loop-standing
invariant-loop-standing l = record {
  answers : l.answers.items ≡ l.initial.answers.items ++ map (λ x. x.answers.items) l.yielded;
  items : l.yielded ++ into_iter_items l.standing-iterator ≡ into_iter_items l.initial.standing-iterator;
}
