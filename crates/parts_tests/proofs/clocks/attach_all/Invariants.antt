-- The tree is that of the description.
use Rattle.std.proofs.Common.{◌≡◌}
use Rattle.parts_tests.proofs.clocks.attach_all.Given as goal

abbrev pub invariant-loop-clock : goal.invariant-loop-clock
invariant-loop-clock g l = l.tree.defs ≡ l.initial.tree.defs
