-- The pass has added the numbers so far.
use Rattle.std.proofs.Common.{◌≡◌, ◌-◌, map, take, false}
use Rattle.lock_tests.proofs.turns.append_all.Given as goal

abbrev pub invariant-loop-number : goal.invariant-loop-number
invariant-loop-number g l = l.pass ≡ record l.initial.pass { seen = l.pass.seen; mine = map (λ n. record { driver = l.initial.pass.number; number = n; prepares = false }) (take l.number-index l.numbers); room = l.initial.pass.room - l.number-index }
