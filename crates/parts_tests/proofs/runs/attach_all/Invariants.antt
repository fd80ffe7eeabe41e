-- The counts are those of the description.
use Rattle.std.proofs.Common.{◌≡◌}
use Rattle.parts_tests.proofs.runs.attach_all.Given as goal

abbrev pub invariant-loop-place : goal.invariant-loop-place
invariant-loop-place l = l.desc.defs ≡ l.beside
