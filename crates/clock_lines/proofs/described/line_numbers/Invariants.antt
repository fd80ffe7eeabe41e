-- the lines of the clocks so far
use Rattle.std.proofs.Common.{◌≡◌, ◌+◌, map, take}
use Rattle.clock_lines.specs.Said.{PlacedClock}
use Rattle.clock_lines.proofs.described.line_numbers.Given as goal

abbrev pub invariant-loop-clock : goal.invariant-loop-clock
invariant-loop-clock l = l.lines.items ≡ map (λ (placed : PlacedClock). l.from + placed.place + 1) (take l.clock-index l.gathered)
