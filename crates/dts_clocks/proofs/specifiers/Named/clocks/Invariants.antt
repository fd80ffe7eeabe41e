use Rattle.std.proofs.Common.{◌≡◌, ◌-◌, ◌++◌, length, drop}
use Rattle.std.specs.Option.{option_map}
use Rattle.dts_clocks.specs.Clocks.{clocks_named}
use Rattle.dts_clocks.proofs.specifiers.Named.clocks.Given as goal

-- the clocks so far, and those that the cells that are left name
abbrev pub invariant-loop-at : goal.invariant-loop-at
invariant-loop-at l = clocks_named l.self l.cells ≡ option_map (λ more. l.found.items ++ more) (clocks_named l.self (drop l.at l.cells))

abbrev pub decreases-loop-at : goal.decreases-loop-at
decreases-loop-at l = length l.cells - l.at
