-- What a visit of a clock makes of the change in flight itself.
use Rattle.std.specs.Prelude.{◌≡◌, ℕ, ◌≤◌, ◌==◌, false, Some, slice_get, if◌then◌else◌}
use Rattle.clk_base.specs.declared.clock.ClockId.{ClockId}
use Rattle.clk_flight.specs.Flights.{FlightState}
use Rattle.clk_flight.specs.Moves.{visited}
use Rattle.change_walk.specs.declared.changes.Changed.{Changed}
use Rattle.core_parts.specs.declared.posting.Posting.{Posting}
use Rattle.core_parts.specs.Course.{CourseState}

-- a clock that has so many notifiers and this rate is visited along a course: none are told where it has none, or where its rate is the one before the change
pub record IsPosted (course : CourseState) (c : ClockId) (count rate : ℕ) (f g : FlightState) : Type 0 where
  pub posts : Posting
  pub none_ : count ≡ 0 → posts ≡ record { count = 0; before = 0; after = 0 }
  pub some_ : (count == 0) ≡ false → (n : Changed) → slice_get course.notified 0 ≡ Some n → posts ≡ record { count = if rate == n.before then 0 else count; before = n.before; after = n.after }
  pub few : posts.count ≤ count
  pub flight : g ≡ visited f c posts.count posts.before posts.after
