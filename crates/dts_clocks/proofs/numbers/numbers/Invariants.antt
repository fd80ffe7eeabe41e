use Rattle.std.proofs.Common.{◌≡◌, take}
use Rattle.std.specs.HashMap.{get}
use Rattle.std.specs.List.{position}
use Rattle.std.specs.Option.{option_map}
use Rattle.dts_clocks.specs.declared.reference.Specifier.{Specifier}
use Rattle.dts_clocks.specs.Clocks.{clock_id}
use Rattle.dts_clocks.specs.Heads.{same_specifier, names_head}
use Rattle.dts_clocks.proofs.numbers.numbers.Given as goal

-- the clocks so far
abbrev pub invariant-loop-at : goal.invariant-loop-at
invariant-loop-at l = (s : Specifier) → get same_specifier l.numbers s ≡ option_map clock_id (position (names_head s) (take l.at l.heads))
