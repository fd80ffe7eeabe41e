-- The first that is the parent, or none.
use Rattle.std.proofs.Common.{sym, arith, eq-eqb, length}
use Rattle.std.specs.Prelude.{◌==◌}
use Rattle.std.proofs.lemmas.List.Sums.{position_or_len_is}
use Rattle.clk_base.specs.declared.clock.ClockId.{ClockId}
use Rattle.change_walk.proofs.moves.place_in.Goals as goal

pub returns-then-parents-place-clause-place : goal.returns-then-parents-place-clause-place
returns-then-parents-place-clause-place c =
    sym (position_or_len_is (λ (other : ClockId). other.0 == c.args.parent.0) c.args.parents.now c.loop-place.place (record { 0 = 0 }) (omega arith) c.loop-place.invariant (λ less. eq-eqb _ _ c.if-parents-place.true))

pub returns-clause-place : goal.returns-clause-place
returns-clause-place c =
    let past = c.loop-place-test.false in
    sym (position_or_len_is (λ (other : ClockId). other.0 == c.args.parent.0) c.args.parents.now (length c.args.parents.now) (record { 0 = 0 }) (omega arith)
    (λ k less. c.loop-place.invariant k (omega arith)) (λ less. absurd (omega arith)))
