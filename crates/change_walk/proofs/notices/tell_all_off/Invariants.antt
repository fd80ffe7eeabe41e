-- What was told with what is left makes the whole.
use Rattle.std.proofs.Common.{◌≡◌, ◌++◌, drop}
use Rattle.std.specs.Prelude.{flat_map}
use Rattle.change_walk.specs.Tellings.{notifiers_at, tell_off}
use Rattle.change_walk.proofs.notices.tell_all_off.Given as goal

abbrev pub invariant-loop-place : goal.invariant-loop-place
invariant-loop-place l =
    l.steps.items ++ flat_map (λ x. tell_off x (notifiers_at l.notifiers x)) (drop l.place l.changed)
    ≡ l.fn.steps.items ++ flat_map (λ x. tell_off x (notifiers_at l.notifiers x)) l.changed
