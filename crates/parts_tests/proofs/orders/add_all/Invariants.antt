use Rattle.std.proofs.Common.{◌≡◌, length}
use Rattle.parts_tests.proofs.orders.add_all.Given as goal

-- there are as many chains as before
abbrev pub invariant-loop-clock : goal.invariant-loop-clock
invariant-loop-clock g l = length l.told ≡ length l.initial.told
