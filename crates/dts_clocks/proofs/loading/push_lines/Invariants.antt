use Rattle.std.proofs.Common.{◌≡◌, ◌++◌, map, take}
use Rattle.dts_bindings.specs.Clocks.{seen_clock}
use Rattle.dts_clocks.proofs.loading.push_lines.Given as goal

-- the clocks so far
abbrev pub invariant-loop-clock : goal.invariant-loop-clock
invariant-loop-clock l = l.lines.items ≡ l.initial.lines.items ++ map (λ c. l.line) (map seen_clock (take l._clock-index l.clocks))
