-- What a flight's fields stand for.
use Rattle.clk_flight.specs.declared.flight.Flight.TheInside.{Inside}
use Rattle.std.specs.Option.{option_map}
use Rattle.clk_flight.specs.Flights.{FlightState}
use Rattle.clk_flight.specs.Kept.{IsKept}

-- the flight that these fields are
abbrev pub flight_of : Inside → FlightState
flight_of f = record {
  going = f.going;
  driver = f.driver;
  call = f.call;
  script = f.script.whole;
  left = f.script.left;
  front = f.front;
  again = f.again;
  raised = f.raised.plls;
  range = f.range;
  extra = f.extra;
  vetoed = f.vetoed;
  timed_out = f.timed_out;
  missed = option_map (λ c. c.0) f.missed;
  plls = f.plls;
}

-- and what they keep
abbrev pub IsSound : Inside → Type 0
IsSound f = IsKept (flight_of f) f.raised.room
