use Rattle.std.proofs.Common.{◌≡◌, ◌++◌, map, take}
use Rattle.dts_clocks.specs.Heads.{head_by}
use Rattle.dts_clocks.proofs.numbers.push_heads.Given as goal

-- the clocks so far
abbrev pub invariant-loop-clock : goal.invariant-loop-clock
invariant-loop-clock l = l.heads.items ≡ l.initial.heads.items ++ map (head_by l.node) (take l.clock-index l.clocks)
