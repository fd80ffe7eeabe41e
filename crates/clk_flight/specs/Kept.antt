-- What a flight keeps.
use Rattle.std.specs.Prelude.{ℕ, ◌+◌, ◌-◌, ◌≤◌, length, sum_by, if◌then◌else◌}
use Rattle.std.specs.Option.{option_map_or}
use Rattle.clk_base.specs.declared.call.Micro.{Micro}
use Rattle.clk_model.specs.Script.{is_raise}
use Rattle.clk_flight.specs.declared.front.Front.{Front}
use Rattle.clk_flight.specs.declared.front.Front.TheVariants.{Poll, Raise}
use Rattle.clk_flight.specs.Fronts.{HasSteps, IsCounted}
use Rattle.clk_flight.specs.Flights.{FlightState}

-- the room that a step of a script may need: a raise takes as many PLLs as a line has
abbrev pub room_for : ℕ → Micro → ℕ
room_for plls m = if is_raise m then plls else 0

-- the room that what stands in front may still need
abbrev pub front_room : ℕ → ℕ → Front → ℕ
front_room plls again (Poll pll polls behind) = option_map_or (λ x. plls - again) behind 0
front_room plls again (Raise x) = plls - again
front_room plls again _ = 0

-- what a flight keeps with room for so many raised PLLs: what stands in front has a step and is counted by machine numbers, nothing has
-- come again more often than a line has PLLs, and there is room for all PLLs that are still to be raised
pub record IsKept (f : FlightState) (capacity : ℕ) : Type 0 where
  pub steps : HasSteps (length f.raised) f.front
  pub counted : IsCounted f.front
  pub again : f.again ≤ f.plls
  pub room : length f.raised + sum_by (room_for f.plls) f.left + front_room f.plls f.again f.front ≤ capacity
