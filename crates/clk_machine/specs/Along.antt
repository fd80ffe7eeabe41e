-- How parts go along with an event that a machine took elsewhere.
use Rattle.std.specs.Prelude.{◌≡◌, ℕ, Option, Some, None, Bool, true, false}
use Rattle.clk_base.specs.declared.call.Micro.{Micro}
use Rattle.clk_base.specs.declared.call.Sleeping.{Sleeping}
use Rattle.clk_base.specs.declared.call.Sleeping.TheVariants as call
use Rattle.clk_base.specs.declared.clock.ClockId.{ClockId}
use Rattle.clk_base.specs.declared.event.Event.{Event}
use Rattle.clk_base.specs.declared.event.Event.TheVariants as event
use Rattle.clk_base.specs.declared.event.Reply.{Reply}
use Rattle.clk_base.specs.declared.event.Reply.TheVariants as reply
use Rattle.clk_base.specs.declared.event.Turn.{Turn}
use Rattle.clk_model.specs.Journal.{slotless}
use Rattle.clk_model.specs.Machine.{next}
use Rattle.clk_model.specs.Laws.Shadows.{lowers_there, sweep_does}
use Rattle.clk_model.specs.State.{State}
use Rattle.clk_model.specs.Tier.{is_step}
use Rattle.clk_machine.specs.Copied.{Copy, Copies, IsCopyOf}
use Rattle.clk_machine.specs.Parts.{Parts}
use Rattle.clk_machine.specs.Sound.{IsSound}
use Rattle.clk_machine.specs.Stands.{Stands}

-- from each sound state that the parts stood for, and that takes the event with this turn, they come to stand for the one after it
abbrev pub GoesAlong : Parts → ℕ → Event → Turn → Parts → Type 0
GoesAlong old d e x new = (s t : State) → Stands old s → IsSound old.window.size s → next s d e ≡ Some (t, slotless x) → Stands new t

-- the description and the number of the words stay
abbrev pub KeepsShape : Parts → Parts → Type 0
KeepsShape old new = (new.desc ≡ old.desc) × (new.window.size ≡ old.window.size)

-- whether an answer tells something or refuses, and so leaves all as it is: any but Ok and a handle
abbrev pub tells_only : Reply → Bool
tells_only reply.Fine = false
tells_only (reply.Handle h) = false
tells_only _ = true

-- whether a call that is answered by Ok at once leaves all as it is
abbrev pub is_still : Sleeping → Bool
is_still (call.Get found) = true
is_still (call.GetRate h) = true
is_still (call.RoundRate h x) = true
is_still (call.SetRate h x) = true
is_still (call.SetParent h p) = true
is_still (call.GetParent h) = true
is_still call.Sweep = true
is_still _ = false

-- parts go along with a step of a sweep: they come to stand for what it makes of each state that they stood for
abbrev pub SweepsAlong : Parts → Micro → Parts → Type 0
SweepsAlong old m new = (s : State) → Stands old s → lowers_there s.clocks m ≡ true → Stands new (sweep_does s m)

-- ---- copies

-- a copy goes along with an event, from each state that it is of and that takes it with this turn
abbrev pub FollowsEvent : Copy → ℕ → Event → Turn → Copy → Type 0
FollowsEvent old d e x new = (s t : State) → IsCopyOf old s → next s d e ≡ Some (t, slotless x) → Copies new t

-- parts of a copy go along with an event
abbrev pub PartsFollow : Parts → ℕ → Event → Turn → Parts → Type 0
PartsFollow old d e x new = FollowsEvent (copy_of old) d e x (copy_of new) where
  copy_of : Parts → Copy
  copy_of m = record { parts = m; room = None }

-- an event is one of a call: its beginning, or a step
abbrev pub IsEventOf : Sleeping → Event → Type 0
IsEventOf what e = is_step e ≡ false → e ≡ event.Begin what

-- the clock of which a call gets a handle
abbrev pub clock_got : Sleeping → Option ClockId
clock_got (call.Get found) = found
clock_got _ = None
