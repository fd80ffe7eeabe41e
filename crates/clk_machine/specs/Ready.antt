-- What a copy has ready for a call that it has room for.
use Rattle.std.specs.Prelude.{◌≡◌, ◌⊎◌, ℕ, ◌+◌, ◌<◌, ◌≤◌, true, false, List, Option, Some, IfSome}
use Rattle.clk_base.specs.declared.call.Sleeping.{Sleeping}
use Rattle.clk_base.specs.declared.call.Sleeping.TheVariants as call
use Rattle.clk_base.specs.declared.event.Event.TheVariants as event
use Rattle.clk_base.specs.declared.event.Turn.TheVariants as turn
use Rattle.clk_flight.specs.Flights.{FlightState}
use Rattle.clk_model.specs.Begin.{most_credits}
use Rattle.notifiers.specs.declared.notifier.Notifier.{Notifier}
use Rattle.core_parts.specs.Course.{CourseState}
use Rattle.core_parts.specs.InFlight.{may_go_on}
use Rattle.clk_model.specs.State.{State}
use Rattle.clk_machine.specs.Along.{GoesAlong}
use Rattle.clk_machine.specs.ChangingAlong.{Changes}
use Rattle.clk_machine.specs.Parts.{Parts}
use Rattle.clk_machine.specs.Places.{IsReadyToAdd}
use Rattle.clk_machine.specs.SettingOut.{CanLower, CanSetOut, CanSweep, NeverGoes, sweep_end}
use Rattle.clk_machine.specs.Sound.{IsPlaced}
use Rattle.clk_machine.specs.Stands.{Stands}

-- a call that goes on can begin with a flight, and with a course if it changes a rate or a parent
abbrev pub CanGo : Parts → ℕ → Sleeping → FlightState → CourseState → Type 0
CanGo m d (call.Prepare h) f course = CanSetOut m d (call.Prepare h) f
CanGo m d (call.Probe c) f course = CanSetOut m d (call.Probe c) f
CanGo m d (call.Unprepare h) f course = CanLower m d h f
CanGo m d call.Sweep f course = CanSweep m d f
CanGo m d (call.SetRate h x) f course = Changes m d (call.SetRate h x) f course
CanGo m d (call.SetRateExclusive h x) f course = Changes m d (call.SetRateExclusive h x) f course
CanGo m d (call.SetRange h least most) f course = Changes m d (call.SetRange h least most) f course
CanGo m d (call.SetParent h p) f course = Changes m d (call.SetParent h p) f course
CanGo m d what f course = ⊥

-- it doesn't go on: of a sweep, whose script isn't the copy's, no credit or no room is left for its end
abbrev pub NeverGo : Parts → ℕ → Sleeping → Type 0
NeverGo m d call.Sweep = (m.credits ≤ m.spent) ⊎ (most_credits < m.credits + m.steps + 1)
NeverGo m d (call.Prepare h) = NeverGoes m d (call.Prepare h)
NeverGo m d (call.Probe c) = NeverGoes m d (call.Probe c)
NeverGo m d (call.Unprepare h) = NeverGoes m d (call.Unprepare h)
NeverGo m d (call.SetRate h x) = NeverGoes m d (call.SetRate h x)
NeverGo m d (call.SetRateExclusive h x) = NeverGoes m d (call.SetRateExclusive h x)
NeverGo m d (call.SetRange h least most) = NeverGoes m d (call.SetRange h least most)
NeverGo m d (call.SetParent h p) = NeverGoes m d (call.SetParent h p)
NeverGo m d what = may_go_on what ≡ false

-- for a get there is the place of a handle, and for the adding of a notifier the chain with it
abbrev pub HasPlaceFor : Parts → ℕ → Sleeping → Option (List Notifier) → Type 0
HasPlaceFor m d (call.Get (Some c)) chain = m.table.place ≡ Some c.0
HasPlaceFor m d (call.NotifierAdd h id priority policy) chain = IsReadyToAdd m d h (record { id = id; priority = priority; policy = policy }) chain
HasPlaceFor m d _ chain = Unit {0}

-- a flight and a course are what a call goes on with, if it does, and it has the place that it needs
pub record IsReadyFor (m : Parts) (d : ℕ) (what : Sleeping) (f : FlightState) (course : CourseState) (chain : Option (List Notifier)) : Type 0 where
  pub ready : f.going ≡ true → CanGo m d what f course
  pub never : f.going ≡ false → NeverGo m d what
  pub has : HasPlaceFor m d what chain

-- so a call begins: the parts go along with that it goes on, or it goes on nowhere; of a sweep they have the end alone then
abbrev pub GoesOut : Parts → ℕ → Sleeping → Parts → Type 0
GoesOut old d call.Sweep new = ((s : State) → Stands old s → Stands new (sweep_end s d)) ⊎ NeverGo old d call.Sweep
GoesOut old d what new = GoesAlong old d (event.Begin what) turn.Going new ⊎ NeverGo old d what

-- what a copy keeps ready: the clocks of the call that it has room for are clocks of the description, and until that call has begun, what it
-- goes on with is made
pub record IsReserved (m : Parts) (room : Option (ℕ × Sleeping)) (f : FlightState) (course : CourseState) (chain : Option (List Notifier)) : Type 0 where
  pub placed : IfSome room (λ r. IsPlaced m.desc.defs r.1)
  pub ready : m.flight.going ≡ false → IfSome room (λ r. IsReadyFor m r.0 r.1 f course chain)
