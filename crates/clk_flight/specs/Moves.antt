-- What each step of a call makes of the change in flight itself.
use Rattle.std.specs.Prelude.{ℕ, ◌+◌, ◌-◌, ◌&&◌, List, [], ◌∷◌, Bool, true, false, Some, None, not, nat_lt, nat_le, if◌then◌else◌}
use Rattle.std.specs.Option.{option_map_or}
use Rattle.clk_base.specs.declared.clock.ClockId.{ClockId}
use Rattle.clk_model.specs.Lists.{without}
use Rattle.clk_model.specs.Step.{cut_short, missed_by, most_polls}
use Rattle.clk_flight.specs.declared.front.Front.{Front}
use Rattle.clk_flight.specs.declared.front.Front.TheVariants.{Empty, Poll, Raise, Lower, Falls}
use Rattle.clk_flight.specs.Fronts.{falls, posts, front_behind, script_behind}
use Rattle.clk_flight.specs.Flights.{FlightState}

-- the numbers of a list without the first
abbrev pub others : List ℕ → List ℕ
others [] = []
others (x ∷ xs) = xs

-- the flight without its first step, where that is no fall
abbrev pub gone_on : FlightState → FlightState
gone_on f = record f { front = front_behind f.raised f.front; left = script_behind f.front f.left }

-- a raise or lower finds no more PLL
abbrev pub found_none : FlightState → FlightState
found_none f = record (gone_on f) { again = 0 }

-- whether a raise or lower comes again: there is more, and it hasn't come as often as a line has PLLs
abbrev pub comes_again : FlightState → Bool → Bool
comes_again f more = more && nat_lt (f.again + 1) f.plls

-- how often it has come again then
abbrev pub once_more : FlightState → Bool → ℕ
once_more f more = if comes_again f more then f.again + 1 else 0

-- a PLL is raised: it is polled next, and then the raise comes again
abbrev pub raised_once : FlightState → ClockId → ClockId → Bool → FlightState
raised_once f x y more = record f {
  raised = y.0 ∷ f.raised;
  again = once_more f more;
  front = Poll y most_polls (if comes_again f more then Some x else None);
  left = script_behind f.front f.left;
}

-- a raise, which goes on as long as it has come less often than a line has PLLs
abbrev pub raised_in : FlightState → ClockId → ClockId → Bool → FlightState
raised_in f x y more = if nat_lt f.again f.plls then raised_once f x y more else found_none f

-- a PLL is lowered, and the lower comes again
abbrev pub lowered_once : FlightState → ClockId → Bool → FlightState
lowered_once f x more = record f {
  again = once_more f more;
  front = if comes_again f more then Lower x else front_behind f.raised f.front;
  left = script_behind f.front f.left;
}

-- the call has timed out: the raised PLLs fall, what a timeout calls off is called off, and the script is cut short
abbrev pub timed_out_in : FlightState → FlightState
timed_out_in f = record f {
  timed_out = true;
  missed = missed_by f.call f.left;
  again = 0;
  extra = 0;
  front = falls f.raised 0 f.extra;
  left = cut_short f.call f.left;
}

-- whether the last poll that a PLL may have is answered by no
abbrev pub is_last_no : Front → Bool → Bool
is_last_no (Poll pll polls again) answer = not answer && nat_le polls 1
is_last_no _ answer = false

-- what stands in front behind a poll that isn't such a one
abbrev pub front_polled : Front → Bool → Front
front_polled (Poll pll polls again) answer = if answer then option_map_or Raise again Empty else Poll pll (polls - 1) again
front_polled front answer = front

-- the poll in front is answered
abbrev pub polled_in : FlightState → Bool → FlightState
polled_in f answer = if is_last_no f.front answer then timed_out_in f else record f { front = front_polled f.front answer; left = script_behind f.front f.left }

-- what stands in front behind a fall
abbrev pub front_fallen : List ℕ → Front → Front
front_fallen raised (Falls told left) = falls raised told left
front_fallen raised front = front

-- the raised PLLs are these
abbrev pub with_raised : FlightState → List ℕ → FlightState
with_raised f ys = record f { raised = ys; front = front_fallen ys f.front }

-- the PLL that was raised last has fallen
abbrev pub fallen : FlightState → FlightState
fallen f = record (with_raised f (others f.raised)) { left = script_behind f.front f.left }

-- a PLL counts as raised no more
abbrev pub let_go_of : FlightState → ClockId → FlightState
let_go_of f y = with_raised f (without (y.0 ∷ []) f.raised)

-- a clock is visited, and so many of its notifiers are told next
abbrev pub visited : FlightState → ClockId → ℕ → ℕ → ℕ → FlightState
visited f c told old new = record (gone_on f) { front = posts c 0 told old new }

-- the change has ended
abbrev pub landed : FlightState → FlightState
landed f = record f { going = false; left = []; front = Empty; again = 0; raised = []; extra = 0 }
