-- The seat stays as it is until a take wins.
use Rattle.std.proofs.Common.{◌≡◌}
use Rattle.tier_lock.proofs.taking.wait_for_value.Given as goal

abbrev pub invariant-loop : goal.invariant-loop
invariant-loop g l = record { table : l.seat.table_id ≡ l.initial.seat.table_id; number : l.seat.id ≡ l.initial.seat.id; view : l.seat.me ≡ l.initial.seat.me }
