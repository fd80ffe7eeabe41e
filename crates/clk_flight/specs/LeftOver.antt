-- The number that each step lowers, whatever the bank answers.
use Rattle.std.specs.Prelude.{ℕ, ◌+◌, ◌-◌, ◌*◌, List, length, sum_by, if◌then◌else◌}
use Rattle.std.specs.Option.{option_map_or}
use Rattle.clk_base.specs.declared.call.Micro.{Micro}
use Rattle.clk_base.specs.declared.call.Micro.TheVariants as micro
use Rattle.clk_model.specs.State.{NotifierRow}
use Rattle.clk_model.specs.Notices.{notifiers_of}
use Rattle.clk_flight.specs.declared.front.Front.{Front}
use Rattle.clk_flight.specs.declared.front.Front.TheVariants.{Empty, Poll, Raise, Lower, Falls, Posts}
use Rattle.clk_flight.specs.Flights.{FlightState}

-- how many steps a step of a script may become
abbrev pub step_weight : List NotifierRow → ℕ → Micro → ℕ
step_weight notifiers plls (micro.Raise x) = 34 * plls + 1
step_weight notifiers plls (micro.Lower x) = plls + 1
step_weight notifiers plls (micro.Visit c) = 1 + length (notifiers_of notifiers c.0)
step_weight notifiers plls _ = 1

-- how many steps a raise may still become that has come again so often
abbrev pub raise_weight : ℕ → ℕ → ℕ
raise_weight plls again = 34 * plls + 1 - 34 * again

-- how many steps may still come of what stands in front; the falls are counted with the raised PLLs
abbrev pub front_weight : ℕ → ℕ → Front → ℕ
front_weight plls again Empty = 0
front_weight plls again (Poll pll polls behind) = polls + option_map_or (λ x. raise_weight plls again) behind 0
front_weight plls again (Raise x) = raise_weight plls again
front_weight plls again (Lower x) = plls + 1 - again
front_weight plls again (Falls told left) = left
front_weight plls again (Posts c told left old new) = left

-- how many steps may still come: of what stands in front, of the script, the notices of a timeout, and a fall of each raised PLL;
-- none where no change is in flight
abbrev pub left_over : List NotifierRow → FlightState → ℕ
left_over notifiers f =
    if f.going then front_weight f.plls f.again f.front + sum_by (step_weight notifiers f.plls) f.left + f.extra + length f.raised else 0
