-- What was left behind isn't the parent.
use Rattle.std.proofs.Common.{◌≡◌, length, reverse}
use Rattle.std.specs.Prelude.{option_map}
use Rattle.change_walk.specs.Changes.{back_to}
use Rattle.change_walk.proofs.changes.go_back_to.Given as goal

abbrev pub invariant-loop-parent : goal.invariant-loop-parent
invariant-loop-parent l = back_to (option_map (λ p. p.0) l.parent) (reverse l.passed.items) ≡ back_to (option_map (λ p. p.0) l.parent) (reverse l.fn.passed.items)

abbrev pub decreases-loop-parent : goal.decreases-loop-parent
decreases-loop-parent l = length l.passed.items
