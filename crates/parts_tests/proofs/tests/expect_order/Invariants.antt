-- The first clock has a chain.
use Rattle.std.proofs.Common.{◌<◌, length}
use Rattle.parts_tests.proofs.tests.expect_order.Given as goal

abbrev pub invariant-loop-id : goal.invariant-loop-id
invariant-loop-id g l = 0 < length l.chains
