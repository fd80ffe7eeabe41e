-- The same call goes on in a flight.
use Rattle.std.proofs.Common.{◌≡◌, ℕ, Bool, true, false, List, refl, nat_lt}
use Rattle.std.specs.Prelude.{if◌then◌else◌}
use Rattle.std.specs.List.{list_all}
use Rattle.clk_base.specs.declared.call.Micro.{Micro}
use Rattle.clk_base.specs.declared.clock.ClockId.{ClockId}
use Rattle.clk_flight.specs.Flights.{FlightState}
use Rattle.clk_flight.specs.Moves.{raised_once, raised_in, found_none, polled_in, timed_out_in, is_last_no, front_polled}
use Rattle.clk_flight.specs.Fronts.{script_behind}
use Rattle.change_walk.specs.declared.changes.Changed.{Changed}
use Rattle.core_parts.specs.Course.{TellsAlong}

-- the call that is in flight is the same
pub record SameCall (f g : FlightState) : Type 0 where
  pub plls : g.plls ≡ f.plls
  pub driver : g.driver ≡ f.driver
  pub call : g.call ≡ f.call
  pub going : g.going ≡ f.going

-- and of a change of a rate or a parent what is told and what is linked fits as before
pub record KeepsAlong (f g : FlightState) : Type 0 where
  pub call : g.call ≡ f.call
  pub tells : (count : ℕ → ℕ) (ns : List Changed) → TellsAlong count ns f → TellsAlong count ns g
  pub links : (can : Micro → Bool) → list_all can f.left ≡ true → list_all can g.left ≡ true

pub same_raised : (f : FlightState) (x y : ClockId) (more : Bool) → SameCall f (raised_in f x y more)
same_raised f x y more = by (nat_lt f.again f.plls) where
  by : (t : Bool) → SameCall f (if t then raised_once f x y more else found_none f)
  by true = record { plls = refl; driver = refl; call = refl; going = refl }
  by false = record { plls = refl; driver = refl; call = refl; going = refl }

pub same_polled : (f : FlightState) (answer : Bool) → SameCall f (polled_in f answer)
same_polled f answer = by (is_last_no f.front answer) where
  by : (t : Bool) → SameCall f (if t then timed_out_in f else record f { front = front_polled f.front answer; left = script_behind f.front f.left })
  by true = record { plls = refl; driver = refl; call = refl; going = refl }
  by false = record { plls = refl; driver = refl; call = refl; going = refl }
