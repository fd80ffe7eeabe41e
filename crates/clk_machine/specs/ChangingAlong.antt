-- What a change of rate or parent goes on with that is made before it begins.
use Rattle.std.specs.Prelude.{◌≡◌, ℕ, List, Option, None, Some}
use Rattle.std.specs.Option.{option_map}
use Rattle.clk_base.specs.declared.call.Sleeping.{Sleeping}
use Rattle.clk_base.specs.declared.call.Sleeping.TheVariants as call
use Rattle.clk_base.specs.declared.event.Event.TheVariants as event
use Rattle.clk_base.specs.declared.event.Turn.TheVariants as turn
use Rattle.clk_base.specs.declared.handle.Handle.{Handle}
use Rattle.clk_flight.specs.Begun.{begun, StartsAs}
use Rattle.clk_flight.specs.Flights.{FlightState, IsChange}
use Rattle.clk_flight.specs.declared.start.Start.{Start}
use Rattle.clk_model.specs.declared.row.HandleRow.{HandleRow}
use Rattle.clk_model.specs.Script.{plls}
use Rattle.clk_model.specs.State.{Change, NotifierRow, handle_at}
use Rattle.core_parts.specs.Course.{CourseState}
use Rattle.clk_machine.specs.Along.{GoesAlong}
use Rattle.clk_machine.specs.Parts.{Parts, own_in, with_range, IsWhole}
use Rattle.clk_machine.specs.Readied.{Scripted}
use Rattle.clk_machine.specs.Readying.{IsStartOf}
use Rattle.clk_machine.specs.SettingOut.{set_out}

-- the range that a driver's own handle has before a call that sets one
abbrev pub range_of : Parts → ℕ → Sleeping → Option (ℕ × ℕ)
range_of m d (call.SetRange h least most) = option_map (λ row. (row.min, row.max)) (own_in m.table.handles d h.number)
range_of m d _ = None

-- the flight of a driver's change has begun with what was worked out for it
pub record SetsAlong (m : Parts) (d : ℕ) (what : Sleeping) (scripted : Scripted) (f : FlightState) : Type 0 where
  pub start : Start
  pub is : IsStartOf d what (range_of m d what) scripted start
  pub flight : f ≡ begun start (plls m.desc.defs)
  pub change : (notifiers : List NotifierRow) (k : Change) → StartsAs notifiers start k → IsChange notifiers f k

-- the parts with this flight along this course, and a credit spent
abbrev pub set_along : Parts → FlightState → CourseState → Parts
set_along m f course = record (set_out m f) { course = course }

-- a change that sets no range can go on so, and does so in each sound state in which it goes on
pub record CanChange (m : Parts) (d : ℕ) (what : Sleeping) (f : FlightState) (course : CourseState) : Type 0 where
  pub whole : IsWhole (set_along m f course)
  pub along : GoesAlong m d (event.Begin what) turn.Going (set_along m f course)

-- and one that gives a handle another range
pub record CanRange (m : Parts) (d : ℕ) (h : Handle) (least most : ℕ) (f : FlightState) (course : CourseState) : Type 0 where
  pub row : HandleRow
  pub own : own_in m.table.handles d h.number ≡ Some row
  pub live : handle_at m.table.handles h.number ≡ Some row
  pub whole : IsWhole (set_along m f course)
  pub along : GoesAlong m d (event.Begin (call.SetRange h least most)) turn.Going (with_range (set_along m f course) h.number least most)

-- of any change
abbrev pub Changes : Parts → ℕ → Sleeping → FlightState → CourseState → Type 0
Changes m d (call.SetRange h least most) f course = CanRange m d h least most f course
Changes m d what f course = CanChange m d what f course
