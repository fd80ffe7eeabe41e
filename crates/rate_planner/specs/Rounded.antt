-- A rounding in code: the rate that a clock would get, with the parent that gives it.
use Rattle.std.specs.Prelude.{◌≡◌, List, true, Option, IfSome}
use Rattle.std.specs.Option.{option_map}
use Rattle.clk_model.specs.declared.row.ClockRow.{ClockRow}
use Rattle.clk_model.specs.Round as round
use Rattle.clk_model.specs.State.{registered}
use Rattle.rate_planner.specs.declared.rounded.Rounded.{Rounded}

-- a rounding as the definitions have it
abbrev pub rounded_of : Rounded → round.Rounded
rounded_of r = record { rate = r.rate; parent = option_map (λ p. p.0) r.parent; parent_rate = r.parent_rate }

-- the parent that a rounding names is registered
abbrev pub NamesRegistered : List ClockRow → Option Rounded → Type 0
NamesRegistered clocks result = IfSome result (λ r. IfSome r.parent (λ p. registered clocks p.0 ≡ true))
