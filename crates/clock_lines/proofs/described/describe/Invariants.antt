-- the clocks so far find their parents, and are described
use Rattle.std.proofs.Common.{◌≡◌, map, take}
use Rattle.clock_lines.specs.Section.{clock_in}
use Rattle.clock_lines.specs.Steps.{FindParents}
use Rattle.clock_lines.proofs.described.describe.Given as goal

abbrev pub invariant-loop-clock : goal.invariant-loop-clock
invariant-loop-clock l = record {
  found : FindParents l.gathered l.clock-index;
  described : l.desc ≡ map (clock_in l.gathered) (take l.clock-index l.gathered);
}
