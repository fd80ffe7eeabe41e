-- What was counted with what is left makes the whole.
use Rattle.std.proofs.Common.{◌≡◌, ◌+◌, ◌-◌, ◌^◌, ◌≤◌, min, drop, length}
use Rattle.std.specs.Prelude.{sum_by}
use Rattle.change_walk.specs.Tellings.{notifiers_at}
use Rattle.change_walk.proofs.weight.count_notifiers.Given as goal

abbrev pub invariant-loop-place : goal.invariant-loop-place
invariant-loop-place l = record {
  whole : min (l.sum + sum_by (λ x. length (notifiers_at l.notifiers x)) (drop l.place l.changed)) (2 ^ 64 - 1)
      ≡ min (sum_by (λ x. length (notifiers_at l.notifiers x)) l.changed) (2 ^ 64 - 1);
  small : l.sum ≤ 2 ^ 64 - 1;
}
