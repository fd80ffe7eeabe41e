use Rattle.std.proofs.Common.{◌≡◌, ◌++◌, map, drop}
use Rattle.std.specs.List.{zip}
use Rattle.dts_bindings.specs.Clocks.{seen_clock, gate_at}
use Rattle.dts_bindings.proofs.clocks.gates_of.Given as goal

-- the gates so far, and those to come
abbrev pub invariant-loop-place : goal.invariant-loop-place
invariant-loop-place l =
    map seen_clock l.found.items ++ map (gate_at l.word) (zip (map (λ t. t.now) (drop l.place l.names)) (drop l.place l.bits))
    ≡ map (gate_at l.word) (zip (map (λ t. t.now) l.names) l.bits)
