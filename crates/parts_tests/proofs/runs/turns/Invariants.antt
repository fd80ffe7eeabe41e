-- The counts are those of the description.
use Rattle.std.proofs.Common.{◌≡◌}
use Rattle.parts_tests.proofs.runs.turns.Given as goal

abbrev pub invariant-loop-turn : goal.invariant-loop-turn
invariant-loop-turn g l = l.desc.defs ≡ l.beside
