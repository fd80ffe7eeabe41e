-- What a step of the definitions is to a flight: where the flight f is a change, the flight g is what the step makes of it.
use Rattle.std.specs.Prelude.{◌≡◌, ℕ, ◌<◌, ◌==◌, List, [], ◌∷◌, Bool, true, false, Some, nat_le, length, reverse, slice_get, slice_index, if◌then◌else◌}
use Rattle.clk_base.specs.declared.clock.ClockId.{ClockId}
use Rattle.clk_base.specs.declared.call.Micro.{Micro}
use Rattle.clk_base.specs.declared.call.Micro.TheVariants as micro
use Rattle.clk_model.specs.Lists.{without}
use Rattle.clk_model.specs.State.{State, Change, NotifierRow}
use Rattle.clk_model.specs.Rate.{rate}
use Rattle.clk_model.specs.Notices.{notifiers_of}
use Rattle.clk_model.specs.Script.{plls}
use Rattle.clk_model.specs.Step.{todo, taken, to_raise, raise, to_lower, lower, poll, fall, set_in_chain, visit}
use Rattle.clk_model.specs.Laws.Paced.{IsPaced, StillToRaise, StillToLower}
use Rattle.clk_flight.specs.Flights.{FlightState, IsChange, Flies, seeks_plls, own_step, comes_next}
use Rattle.clk_flight.specs.LeftOver.{left_over}

-- whether a step is neither a poll nor a fall
abbrev pub is_taken : Micro → Bool
is_taken (micro.Poll y) = false
is_taken (micro.Fall y) = false
is_taken _ = true

-- a step is made that leaves the rest of the change as it is
abbrev pub GoesOn : FlightState → FlightState → Type 0
GoesOn f g = (notifiers : List NotifierRow) (k : Change) (m : Micro) → IsChange notifiers f k → slice_get (todo k) 0 ≡ Some m → is_taken m ≡ true
    → IsChange notifiers g (taken k)

-- a raise or a lower has found no PLL
abbrev pub FindsNone : FlightState → FlightState → Type 0
FindsNone f g = (notifiers : List NotifierRow) (k : Change) (m : Micro) → IsChange notifiers f k → slice_get (todo k) 0 ≡ Some m → seeks_plls (Some m) ≡ true
    → IsChange notifiers g (record (taken k) { again = 0 })

-- a raise has powered this PLL, the highest that it is to raise, and perhaps there are more
abbrev pub Raises : ClockId → ClockId → Bool → FlightState → FlightState → Type 0
Raises x y more f g = (s : State) (k : Change) → IsChange s.notifiers f k → f.plls ≡ plls s.defs → slice_get (todo k) 0 ≡ Some (micro.Raise x)
    → StillToRaise s k x → slice_get (reverse (to_raise s (taken k) x.0)) 0 ≡ Some y.0 → more ≡ nat_le 2 (length (to_raise s (taken k) x.0))
    → Flies s.notifiers g (raise s (taken k) x.0).change

-- a lower has switched a PLL off, the lowest that it is to lower, and perhaps there are more
abbrev pub LowersOne : ClockId → Bool → FlightState → FlightState → Type 0
LowersOne x more f g = (s : State) (k : Change) (y : ℕ) → IsChange s.notifiers f k → f.plls ≡ plls s.defs → slice_get (todo k) 0 ≡ Some (micro.Lower x)
    → StillToLower s k x → slice_get (to_lower s x.0) 0 ≡ Some y → more ≡ nat_le 2 (length (to_lower s x.0))
    → Flies s.notifiers g (lower s (taken k) x.0).change

-- a poll is answered; by the last no the call times out
abbrev pub Polls : Bool → FlightState → FlightState → Type 0
Polls answer f g = (s : State) (k : Change) (y : ClockId) → IsChange s.notifiers f k → own_step f ≡ Some (micro.Poll y) → slice_get (todo k) 0 ≡ Some (micro.Poll y) → IsPaced s k
    → Flies s.notifiers g (poll s (taken k) y.0 answer).change

-- a raised PLL has fallen
abbrev pub Drops : FlightState → FlightState → Type 0
Drops f g = (s : State) (k : Change) (y : ClockId) → IsChange s.notifiers f k → slice_get (todo k) 0 ≡ Some (micro.Fall y) → IsPaced s k
    → Flies s.notifiers g (fall s (taken k) y.0).change

-- a PLL counts as raised no more
abbrev pub LetsGo : ClockId → FlightState → FlightState → Type 0
LetsGo y f g = (notifiers : List NotifierRow) (k : Change) → IsChange notifiers f k → k.front ≡ [] → IsChange notifiers g (record k { raised = without (y.0 ∷ []) k.raised })

-- how many notifiers a visit of a clock tells: all, where its rate is another than at the beginning
abbrev pub told_by_visit : State → Change → ℕ → ℕ
told_by_visit s k c =
    if rate s.defs (set_in_chain s k c) s.clocks c == slice_index k.before c then 0 else length (notifiers_of s.notifiers c)

-- a clock is visited, and so many notifiers are told
abbrev pub Visits : ClockId → ℕ → ℕ → ℕ → FlightState → FlightState → Type 0
Visits c told old new f g = (s : State) (k : Change) → IsChange s.notifiers f k → slice_get (todo k) 0 ≡ Some (micro.Visit c) → told ≡ told_by_visit s k c.0
    → old ≡ slice_index k.before c.0 → new ≡ slice_index k.outcome c.0 → Flies s.notifiers g (visit s (taken k) c.0).change

-- ---- the number that falls

-- whatever the notifiers, less is left over
abbrev pub LeavesLess : FlightState → FlightState → Type 0
LeavesLess f g = (notifiers : List NotifierRow) → left_over notifiers g < left_over notifiers f

-- less is left over, where such a step comes next
abbrev pub LeavesLessAt : (Micro → Bool) → FlightState → FlightState → Type 0
LeavesLessAt test f g = (notifiers : List NotifierRow) (m : Micro) → comes_next notifiers f ≡ Some m → test m ≡ true → left_over notifiers g < left_over notifiers f

-- whether a step is a fall; and what each step passes
abbrev pub is_fall : Micro → Bool
is_fall (micro.Fall y) = true
is_fall _ = false

abbrev pub is_any : Micro → Bool
is_any m = true
