-- A change in flight: what is kept of it, and the change of the definitions that it stands for.
use Rattle.std.specs.Prelude.{◌≡◌, ℕ, List, [], ◌∷◌, Bool, true, false, Option, Some, None, map, take, length, slice_get, option_and_then, if◌then◌else◌, ◌≤◌}
use Rattle.std.specs.List.{list_any, list_all}
use Rattle.std.specs.Option.{option_map}
use Rattle.clk_base.specs.declared.call.Micro.{Micro}
use Rattle.clk_base.specs.declared.call.Micro.TheVariants as micro
use Rattle.clk_base.specs.declared.call.Sleeping.{Sleeping}
use Rattle.clk_model.specs.State.{NotifierRow, Change}
use Rattle.clk_model.specs.Chain.{clock_id}
use Rattle.clk_model.specs.Notices.{notifiers_of, abort_list}
use Rattle.clk_model.specs.Step.{todo, sets_parent}
use Rattle.clk_model.specs.Laws.Paced.{may_time_out, is_notice}
use Rattle.clk_flight.specs.declared.front.Front.{Front}
use Rattle.clk_flight.specs.declared.front.Front.TheVariants.{Empty, Poll, Raise, Lower, Falls, Posts}
use Rattle.clk_flight.specs.Fronts.{polls_of, called_off, abort_of, post_to, front_steps, front_aborts, front_count, HasSteps}

-- what is kept of a change in flight
pub record FlightState : Type 0 where
  -- whether one is in flight
  pub going : Bool
  pub driver : ℕ
  pub call : Sleeping
  -- the whole script, and what is left of it
  pub script : List Micro
  pub left : List Micro
  -- what stands in front of it
  pub front : Front
  -- how often the raise or lower in front has come again
  pub again : ℕ
  -- the PLLs that the call has raised and that nothing holds yet, the last one first
  pub raised : List ℕ
  -- the range of the handle before the call, where the call sets a range
  pub range : Option (ℕ × ℕ)
  -- how many notices at the head of the script a timeout still calls off
  pub extra : ℕ
  pub vetoed : Bool
  pub timed_out : Bool
  -- the clock that isn't set after a timeout
  pub missed : Option ℕ
  -- the greatest number of PLLs on a line of possible parents
  pub plls : ℕ

-- ---- the step that comes next

-- the fall of the PLL that was raised last, or else the notice at a place of the script, as one that the change is called off
abbrev pub fall_or_abort : List Micro → ℕ → List ℕ → Option Micro
fall_or_abort script told [] = option_and_then abort_of (slice_get script told)
fall_or_abort script told (y ∷ ys) = Some (micro.Fall (clock_id y))

-- the first step of what stands in front, or else of the script
abbrev pub first_step : List NotifierRow → FlightState → Front → Option Micro
first_step notifiers f Empty = slice_get f.left 0
first_step notifiers f (Poll pll polls again) = Some (micro.Poll pll)
first_step notifiers f (Raise x) = Some (micro.Raise x)
first_step notifiers f (Lower x) = Some (micro.Lower x)
first_step notifiers f (Falls told left) = fall_or_abort f.script told f.raised
first_step notifiers f (Posts c told left old new) = option_map (post_to c old new) (slice_get (notifiers_of notifiers c.0) told)

-- the step that comes next, where it is the script's own, a poll, or a raise or lower that comes again
abbrev pub own_first : FlightState → Front → Option Micro
own_first f Empty = slice_get f.left 0
own_first f (Poll pll polls again) = Some (micro.Poll pll)
own_first f (Raise x) = Some (micro.Raise x)
own_first f (Lower x) = Some (micro.Lower x)
own_first f _ = None

-- the step that comes next, where it is no fall and no notice behind a timeout or a visit
abbrev pub own_step : FlightState → Option Micro
own_step f = if f.going then own_first f f.front else None

-- whether a step looks for PLLs: a raise or a lower
abbrev pub seeks_plls : Option Micro → Bool
seeks_plls (Some (micro.Raise x)) = true
seeks_plls (Some (micro.Lower x)) = true
seeks_plls _ = false

-- the step that comes next, while a change is in flight
abbrev pub comes_next : List NotifierRow → FlightState → Option Micro
comes_next notifiers f = if f.going then first_step notifiers f f.front else None

-- ---- the change that it stands for

-- the notices that a timeout brings: a change of parent is called off
abbrev pub aborts_over : List NotifierRow → Change → List Micro
aborts_over notifiers k = if sets_parent k.call then abort_list (record { before = k.before; outcome = k.outcome }) notifiers k.changing else []

-- the flight is this change, where these are the notifiers
pub record IsChange (notifiers : List NotifierRow) (f : FlightState) (k : Change) : Type 0 where
  pub going : f.going ≡ true
  pub driver : k.driver ≡ f.driver
  pub call : k.call ≡ f.call
  pub front : k.front ≡ front_steps notifiers f.script f.raised f.front
  pub count : length k.front ≡ front_count (length f.raised) f.front
  pub steps : HasSteps (length f.raised) f.front
  pub notices : list_all is_notice (front_aborts f.script f.front) ≡ true
  pub left : k.left ≡ f.left
  pub polls : k.polls ≡ polls_of f.front
  pub again : k.again ≡ f.again
  pub raised : k.raised ≡ f.raised
  pub range : k.range ≡ f.range
  pub extra : k.extra ≡ f.extra
  pub fits : f.extra ≤ length f.script
  pub calls_off : list_all is_notice (map called_off (take f.extra f.script)) ≡ true
  pub vetoed : k.vetoed ≡ f.vetoed
  pub timed_out : k.timed_out ≡ f.timed_out
  pub missed : k.missed ≡ f.missed
  -- what a timeout calls off stands at the head of the script, as long as a step may time out
  pub aborts : list_any may_time_out (todo k) ≡ true → aborts_over notifiers k ≡ map called_off (take f.extra f.script)

-- the flight is the change of a state, if there is one
abbrev pub Flies : List NotifierRow → FlightState → Option Change → Type 0
Flies notifiers f None = f.going ≡ false
Flies notifiers f (Some k) = IsChange notifiers f k
