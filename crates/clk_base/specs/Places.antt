-- The clocks of a list by their places in the description.
use Rattle.std.specs.Prelude.{ℕ, List, map}
use Rattle.clk_base.specs.declared.clock.ClockId.{ClockId}

-- the places of clocks
abbrev pub places : List ClockId → List ℕ
places clocks = map (λ c. c.0) clocks
