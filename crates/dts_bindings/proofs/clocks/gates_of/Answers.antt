use Rattle.std.proofs.Common.{◌≤◌, length, arith, map, drop}
use Rattle.std.proofs.lemmas.Bool.Decides.{nat_tests}
use Rattle.dts_bindings.specs.Clocks.{gate_at}
use Rattle.dts_bindings.proofs.Pairing.{paired}
use Rattle.dts_bindings.proofs.clocks.gates_of.Goals as goal

pub returns-in_default : goal.returns-in_default
returns-in_default c =
    let past : length c.args.bits.now ≤ c.loop-place.place = grind (arith, nat_tests, c.in_default.ensures.lookup.0) in
    paired (gate_at c.args.word) (map (λ t. t.now) (drop c.loop-place.place c.args.names.now)) c.args.bits.now c.loop-place.place _ _ past c.loop-place.invariant
