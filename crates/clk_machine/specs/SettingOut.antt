-- What a call goes on with that is made before it begins.
use Rattle.std.specs.Prelude.{◌≡◌, ℕ, ◌+◌, ◌<◌, List, [], ◌∷◌, false, None, Some, slice_set}
use Rattle.clk_base.specs.declared.call.Micro.{Micro}
use Rattle.clk_base.specs.declared.call.Micro.TheVariants as micro
use Rattle.clk_base.specs.declared.call.Sleeping.{Sleeping}
use Rattle.clk_base.specs.declared.call.Sleeping.TheVariants as call
use Rattle.clk_base.specs.declared.event.Event.TheVariants as event
use Rattle.clk_base.specs.declared.event.Turn.TheVariants as turn
use Rattle.clk_base.specs.declared.handle.Handle.{Handle}
use Rattle.clk_flight.specs.Begun.{begun, StartsAs}
use Rattle.clk_flight.specs.Flights.{FlightState, IsChange}
use Rattle.clk_flight.specs.declared.start.Start.{Start}
use Rattle.clk_model.specs.declared.row.HandleRow.{HandleRow}
use Rattle.clk_model.specs.Begin.{change_of}
use Rattle.clk_model.specs.Machine.{next}
use Rattle.clk_model.specs.Script.{plls}
use Rattle.clk_model.specs.State.{State, Change, NotifierRow, handle_at}
use Rattle.counts_core.specs.Counted.{AreCounts}
use Rattle.clk_machine.specs.Along.{GoesAlong}
use Rattle.clk_machine.specs.Holding.{prepared_less}
use Rattle.clk_machine.specs.Parts.{Parts, own_in, IsWhole}
use Rattle.clk_machine.specs.Sound.{IsSound}
use Rattle.clk_machine.specs.Stands.{Stands}
use Rattle.clk_machine.specs.Starting.{released}

-- a flight of a driver's call has begun with these steps, over these parts
pub record SetsOut (m : Parts) (d : ℕ) (what : Sleeping) (steps : List Micro) (f : FlightState) : Type 0 where
  pub start : Start
  pub flight : f ≡ begun start (plls m.desc.defs)
  pub change : (notifiers : List NotifierRow) (k : Change) → StartsAs notifiers start k → IsChange notifiers f k
  pub driver : start.driver ≡ d
  pub call_ : start.call ≡ what
  pub script : start.script.items ≡ steps
  pub range : start.range ≡ None
  pub extra : start.extra ≡ 0
  pub vetoed : start.vetoed ≡ false

-- the parts with this flight, and a credit spent
abbrev pub set_out : Parts → FlightState → Parts
set_out m f = record m { flight = f; spent = m.spent + 1 }

-- a call of a driver can go on with a flight, and does so in each sound state in which it goes on
pub record CanSetOut (m : Parts) (d : ℕ) (what : Sleeping) (f : FlightState) : Type 0 where
  pub whole : IsWhole (set_out m f)
  pub along : GoesAlong m d (event.Begin what) turn.Going (set_out m f)

-- it goes on in no sound state that the parts stand for
abbrev pub NeverGoes : Parts → ℕ → Sleeping → Type 0
NeverGoes m d what = (s t : State) → Stands m s → IsSound m.window.size s → next s d (event.Begin what) ≡ Some (t, turn.Going) → ⊥

-- a handle gives up a prepare, and its call goes on with a flight: the parts then
abbrev pub set_lower : Parts → ℕ → HandleRow → FlightState → Parts
set_lower m n row f = record (set_out m f) {
  table = record m.table { handles = slice_set m.table.handles n (Some (prepared_less row)) };
  counts = released m.counts row.clock.0;
}

-- an unprepare can go on with a flight, and does so in each sound state in which it goes on
pub record CanLower (m : Parts) (d : ℕ) (h : Handle) (f : FlightState) : Type 0 where
  pub row : HandleRow
  pub own : own_in m.table.handles d h.number ≡ Some row
  pub live : handle_at m.table.handles h.number ≡ Some row
  pub some : 0 < row.prepares
  pub keeps : AreCounts (released m.counts row.clock.0)
  pub whole : IsWhole (set_lower m h.number row f)
  pub along : GoesAlong m d (event.Begin (call.Unprepare h)) turn.Going (set_lower m h.number row f)

-- a sweep of which the end alone is left
abbrev pub sweep_end : State → ℕ → State
sweep_end s d = record s { change = Some (change_of s d call.Sweep (micro.End ∷ [])); spent = s.spent + 1 }

-- a sweep can go on with a flight of which the end alone is left
pub record CanSweep (m : Parts) (d : ℕ) (f : FlightState) : Type 0 where
  pub whole : IsWhole (set_out m f)
  pub stands : (s : State) → Stands m s → Stands (set_out m f) (sweep_end s d)
