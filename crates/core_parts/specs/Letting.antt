-- PLLs that count as raised no more.
use Rattle.std.specs.Prelude.{◌≡◌, ℕ, ◌≤◌, List, []}
use Rattle.clk_model.specs.Lists.{without}
use Rattle.clk_model.specs.State.{Change, NotifierRow}
use Rattle.clk_flight.specs.Flights.{FlightState, IsChange}
use Rattle.clk_flight.specs.LeftOver.{left_over}

-- these clocks count as raised no more in a flight, and so in the change that it stands for
pub record LetsGoAll (ys : List ℕ) (f g : FlightState) : Type 0 where
  pub flight : g ≡ record f { raised = without ys f.raised }
  pub change : (notifiers : List NotifierRow) (k : Change) → IsChange notifiers f k → k.front ≡ [] → IsChange notifiers g (record k { raised = without ys k.raised })
  pub less : (notifiers : List NotifierRow) → left_over notifiers g ≤ left_over notifiers f
