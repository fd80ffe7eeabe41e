-- As many numbers as rounds.
use Rattle.std.proofs.Common.{◌≡◌, length}
use Rattle.lock_tests.proofs.turns.numbers_from.Given as goal

abbrev pub invariant-loop-k : goal.invariant-loop-k
invariant-loop-k l = length l.numbers.items ≡ l.k
