-- A state without enables that goes along with another by itself: a twin.
use Rattle.std.specs.Prelude.{◌≡◌, ℕ, ◌≤◌, Bool, true, false, Option, Some, map, option_map, length, ◌⊎◌}
use Rattle.clk_base.specs.declared.call.Micro.{Micro}
use Rattle.clk_base.specs.declared.call.Sleeping.{Sleeping}
use Rattle.clk_base.specs.declared.event.Event.{Event}
use Rattle.clk_base.specs.declared.event.Event.TheVariants as event
use Rattle.clk_base.specs.declared.event.Errno.TheVariants as errno
use Rattle.clk_base.specs.declared.event.Reply.TheVariants as reply
use Rattle.clk_base.specs.declared.event.Turn.{Turn}
use Rattle.clk_base.specs.declared.event.Turn.TheVariants as turn
use Rattle.clk_model.specs.State.{State, Change}
use Rattle.clk_model.specs.Round.{wiring}
use Rattle.clk_model.specs.Machine.{next}
use Rattle.clk_model.specs.Prep.{without_enables, is_sweep, prep}
use Rattle.clk_model.specs.Tier.{is_enable_tier}
use Rattle.clk_model.specs.Wired.{IsWired}
use Rattle.clk_model.specs.Laws.PlansRead.{no_room}
use Rattle.clk_model.specs.Laws.PrepSteps.{fits_mux}

-- a state is a twin of another: no handle of it has an enable; it has the same part of the prepare tier and the same enable holds; and no
-- more credits were spent and no more steps made in it
pub record IsTwin (t s : State) : Type 0 where
  pub bare : t.handles ≡ map (option_map without_enables) t.handles
  pub holds : t.enable_holds ≡ s.enable_holds
  pub spent : t.spent ≤ s.spent
  pub steps : t.steps ≤ s.steps
  pub same : prep t ≡ prep s

-- an enable, a disable and the question whether a clock runs leave it a twin
abbrev pub TwinsStay : Type 0
TwinsStay = (s t u : State) (d : ℕ) (e : Event) (x : Turn) → IsTwin t s → is_enable_tier e ≡ true → next s d e ≡ Some (u, x) → IsTwin t u

-- the twin makes an event too, is answered alike, and is a twin of the other state still
pub record TwinMakes (t : State) (d : ℕ) (e : Event) (u : State) (x : Turn) : Type 0 where
  pub after : State
  pub made : next t d e ≡ Some (after, x)
  pub twin : IsTwin after u

-- so it is with each step of a call that isn't the sweep, over a wired tree
abbrev pub TwinsStep : Type 0
TwinsStep = (s t u : State) (k : Change) (d : ℕ) (m : Micro) (answer : Option Bool) (x : Turn) → IsWired (length s.regs) (wiring s) → IsTwin t s
    → s.change ≡ Some k → is_sweep k.call ≡ false → fits_mux s.defs m ≡ true → next s d (event.Step m answer) ≡ Some (u, x) → TwinMakes t d (event.Step m answer) u x

-- a call that changes nothing in a state, though it may in one with more room or with fewer enables: it lacks room, or its handle has an
-- enable and so keeps what is to be given back
abbrev pub IsLeftOut : Turn → Type 0
IsLeftOut x = (x ≡ no_room) ⊎ ((x ≡ turn.Done (reply.Refused errno.EBUSY)) ⊎ (x ≡ turn.Done reply.Warn))

-- and with each beginning of such a call; or that call is left out, and the twin stays one as it is
abbrev pub TwinsBegin : Type 0
TwinsBegin = (s t u : State) (d : ℕ) (what : Sleeping) (x : Turn) → IsWired (length s.regs) (wiring s) → IsTwin t s → is_sweep what ≡ false
    → next s d (event.Begin what) ≡ Some (u, x) → TwinMakes t d (event.Begin what) u x ⊎ (IsLeftOut x × IsTwin t u)
