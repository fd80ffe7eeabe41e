-- Laws on flights.
use Rattle.std.specs.Prelude.{◌≡◌, ℕ, Some, length, slice_get}
use Rattle.clk_base.specs.declared.call.Micro.TheVariants as micro
use Rattle.clk_base.specs.declared.call.Sleeping.{Sleeping}
use Rattle.clk_base.specs.declared.clock.ClockId.{ClockId}
use Rattle.clk_base.specs.declared.event.Event.TheVariants as event
use Rattle.clk_base.specs.declared.event.Turn.TheVariants as turn
use Rattle.clk_model.specs.State.{State, Change}
use Rattle.clk_model.specs.Script.{plls}
use Rattle.clk_model.specs.Machine.{next}
use Rattle.clk_base.specs.Valid.{IsValid}
use Rattle.clk_model.specs.Wired.{LinksArePossible}
use Rattle.clk_model.specs.Step.{todo}
use Rattle.clk_model.specs.Laws.Paced.{IsPaced, StillToRaise, StillToLower}
use Rattle.clk_model.specs.Laws.Weight.{weight_left}
use Rattle.clk_flight.specs.declared.start.Start.{Start}
use Rattle.clk_flight.specs.Begun.{StartsAs}
use Rattle.clk_flight.specs.Flights.{FlightState, IsChange}
use Rattle.clk_flight.specs.LeftOver.{left_over}

-- what is left over of a flight is the weight that is left of its change
abbrev pub LeftIsWeight : Type 0
LeftIsWeight = (s : State) (f : FlightState) (k : Change) → IsChange s.notifiers f k → f.plls ≡ plls s.defs → left_over s.notifiers f ≡ weight_left s k

-- a change has this driver, call, script and range, calls off so many notices, and is vetoed or not
pub record IsPlanned (start : Start) (k : Change) : Type 0 where
  pub driver : k.driver ≡ start.driver
  pub call : k.call ≡ start.call
  pub left : k.left ≡ start.script.items
  pub range : k.range ≡ start.range
  pub extra : k.extra ≡ start.extra
  pub vetoed : k.vetoed ≡ start.vetoed

-- each call that goes on begins as a flight takes it: where a step of it may time out, the notices that this calls off stand at the
-- head of its script, and there are no others of that number
abbrev pub CallsStart : Type 0
CallsStart = (s t : State) (d : ℕ) (what : Sleeping) (k : Change) (start : Start) → next s d (event.Begin what) ≡ Some (t, turn.Going) → t.change ≡ Some k
    → IsPlanned start k → StartsAs t.notifiers start k

-- a raise or a lower of a paced change that comes next has, with what it has raised or lowered so far, no more PLLs still to go than a
-- line of possible parents has
abbrev pub PacedSeekFew : Type 0
PacedSeekFew = (s : State) (k : Change) (x : ClockId) → IsValid (length s.regs) s.defs → LinksArePossible s.defs s.clocks → IsPaced s k
    → (slice_get (todo k) 0 ≡ Some (micro.Raise x) → StillToRaise s k x) × (slice_get (todo k) 0 ≡ Some (micro.Lower x) → StillToLower s k x)
