use Rattle.std.proofs.Common.{◌≡◌, ◌++◌, drop}
use Rattle.std.specs.Option.{option_map}
use Rattle.dts_clocks.specs.SecondPass.{all_there}
use Rattle.dts_clocks.proofs.second_pass.all_there.Given as goal

-- the clocks so far, and those that are left
abbrev pub invariant-loop-clock : goal.invariant-loop-clock
invariant-loop-clock l = all_there l.clocks ≡ option_map (λ more. l.there.items ++ more) (all_there (drop l.clock-index l.clocks))
