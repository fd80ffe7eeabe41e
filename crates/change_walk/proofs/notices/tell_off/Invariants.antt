-- What was told with what is left makes the whole.
use Rattle.std.proofs.Common.{◌≡◌, ◌++◌, drop}
use Rattle.change_walk.specs.Tellings.{tell_off}
use Rattle.change_walk.proofs.notices.tell_off.Given as goal

abbrev pub invariant-loop-place : goal.invariant-loop-place
invariant-loop-place l = l.steps.items ++ tell_off l.changed (drop l.place l.chain) ≡ l.fn.steps.items ++ tell_off l.changed l.chain
