-- The parts of a core, and what they keep.
use Rattle.std.specs.Prelude.{◌≡◌, ℕ, ◌+◌, ◌<◌, ◌≤◌, ◌==◌, List, [], is_some, Bool, true, Option, Some, None, IfSome, if◌then◌else◌, length, sum_by}
use Rattle.std.specs.Option.{option_map_or}
use Rattle.clk_base.specs.Checked.{Checked}
use Rattle.clk_base.specs.Description.{Description}
use Rattle.clk_base.specs.declared.call.Sleeping.{Sleeping}
use Rattle.clk_flight.specs.Flights.{FlightState}
use Rattle.clk_flight.specs.LeftOver.{left_over}
use Rattle.clk_model.specs.Script.{plls}
use Rattle.clk_model.specs.declared.row.ClockRow.{ClockRow}
use Rattle.clk_model.specs.declared.row.HandleRow.{HandleRow}
use Rattle.clk_model.specs.Lists.{present}
use Rattle.clk_model.specs.State.{State, registered, handle_at}
use Rattle.clk_model.specs.Begin.{most_credits}
use Rattle.clk_tree.specs.TreeState.{TreeState}
use Rattle.counts_core.specs.Counted.{CountState, AreCounts}
use Rattle.counts_core.specs.Standing.{StandsFor}
use Rattle.notifiers.specs.declared.notifier.Notifier.{Notifier}
use Rattle.rate_requests.specs.Handles.{HandleTable, with_range_at}
use Rattle.core_parts.specs.Window.{Shown}
use Rattle.change_walk.specs.declared.changes.Changed.{Changed}
use Rattle.std.specs.List.{list_all}
use Rattle.core_parts.specs.Holds.{listed, AreHeld}
use Rattle.core_parts.specs.InFlight.{can_link, changes_rate, links_clocks, probes, handle_to_end, IsUnderWay}
use Rattle.core_parts.specs.Course.{CourseState, notifiers_at, TellsAlong}
use Rattle.core_parts.specs.Listed.{rows_from, AreListed}
use Rattle.core_parts.specs.Tied.{AreTied, desc_of}

-- a core without its journal, as what contracts see of each part
pub record Parts : Type 0 where
  pub desc : Checked
  pub window : Shown
  pub tree : TreeState
  pub table : HandleTable
  pub counts : CountState
  pub chains : List (List Notifier)
  pub credits : ℕ
  pub spent : ℕ
  pub ignore_unused : Bool
  pub flight : FlightState
  pub course : CourseState
  -- how often each clock is held for the change in flight by a prepare, and by an enable
  pub prepare_holds : List ℕ
  pub enable_holds : List ℕ
  pub steps : ℕ

-- these parts, with the description that the tree has
abbrev pub parts_of : Shown → TreeState → HandleTable → CountState → List (List Notifier) → ℕ → ℕ → Bool → FlightState → CourseState → List ℕ → List ℕ → ℕ → Parts
parts_of window tree table counts chains credits spent ignore_unused flight course prepare_holds enable_holds steps = record {
  desc = desc_of tree;
  window = window;
  tree = tree;
  table = table;
  counts = counts;
  chains = chains;
  credits = credits;
  spent = spent;
  ignore_unused = ignore_unused;
  flight = flight;
  course = course;
  prepare_holds = prepare_holds;
  enable_holds = enable_holds;
  steps = steps;
}

-- the state of these parts as far as they have it: without words and notifiers, and without a change in flight
abbrev pub bare : Parts → State
bare m = record {
  defs = m.desc.defs;
  regs = [];
  clocks = m.tree.clocks;
  order = m.tree.order;
  handles = m.table.handles;
  notifiers = [];
  prepare_holds = listed m.prepare_holds;
  enable_holds = listed m.enable_holds;
  change = None;
  credits = m.credits;
  spent = m.spent;
  steps = 0;
  ignore_unused = m.ignore_unused;
}

-- the row of a driver's own live handle
abbrev pub own_in : List (Option HandleRow) → ℕ → ℕ → Option HandleRow
own_in handles driver number = option_map_or (λ h. if h.driver == driver then Some h else None) (handle_at handles number) None

-- what a handle holds in all
abbrev pub held_in_all : HandleRow → ℕ
held_in_all h = h.prepares + h.enables + h.exclusives

-- handles and what they hold were paid for
pub record ArePaid (handles : List (Option HandleRow)) (credits spent : ℕ) : Type 0 where
  pub few_credits : credits ≤ most_credits
  pub within : spent ≤ credits
  pub few_handles : length handles ≤ spent
  pub few_holds : sum_by held_in_all (present handles) ≤ spent

-- the counts are those of the links and of what is held
pub record AreCounted (m : Parts) : Type 0 where
  pub keeps : AreCounts m.counts
  pub stands : StandsFor m.counts (bare m)

-- the handle that the end of the call in flight may write is one of its driver
abbrev pub IsOwnCall : List (Option HandleRow) → ℕ → Sleeping → Type 0
IsOwnCall handles driver what = IfSome (handle_to_end what) (λ h. is_some (own_in handles driver h.number) ≡ true)

-- what is kept of a change in flight: what is left of it to do, its call's own handle or clock, that what it may come to hold was paid for, of a change of rate
-- or parent the clocks that are still to be told, and that its links and registration can be made
pub record IsFlown (defs : Description) (clocks : List ClockRow) (handles : List (Option HandleRow)) (chains : List (List Notifier)) (notified : List Changed) (spent : ℕ) (f : FlightState) : Type 0 where
  pub plls_ : f.plls ≡ plls defs
  pub way : IsUnderWay (registered clocks) f
  pub own : IsOwnCall handles f.driver f.call
  pub paid : sum_by held_in_all (present handles) < spent
  pub tells : changes_rate f.call ≡ true → TellsAlong (notifiers_at chains) notified f
  pub links : links_clocks f.call ≡ true → list_all (can_link defs clocks) f.left ≡ true
  pub placed : (c : ℕ) → probes f.call c ≡ true → c < length defs

-- how many steps the change in flight may still come to
abbrev pub steps_left : Parts → ℕ
steps_left m = left_over (rows_from 0 m.chains) m.flight

-- the parts with another range of a handle
abbrev pub with_range : Parts → ℕ → ℕ → ℕ → Parts
with_range m number least most = record m { table = record m.table { handles = with_range_at m.table.handles number least most } }

-- what the parts of a core keep
pub record IsWhole (m : Parts) : Type 0 where
  pub tied : AreTied m.desc m.window m.tree
  pub paid : ArePaid m.table.handles m.credits m.spent
  pub counted : AreCounted m
  -- handles and notifiers are of clocks of the description, and the clock of a handle is registered
  pub clocks : m.table.clocks ≡ length m.desc.defs
  pub handled : (n : ℕ) (h : HandleRow) → handle_at m.table.handles n ≡ Some h → registered m.tree.clocks h.clock.0 ≡ true
  pub notified : length m.chains ≡ length m.desc.defs
  pub listed : AreListed m.chains
  -- a change in flight is kept as it has to be, and there is room for the entries of its steps
  pub flown : m.flight.going ≡ true → IsFlown m.desc.defs m.tree.clocks m.table.handles m.chains m.course.notified m.spent m.flight
  pub room : m.credits + m.steps + steps_left m ≤ most_credits
  -- what is held for it was held by steps
  pub prepares_held : AreHeld (registered m.tree.clocks) (length m.desc.defs) m.steps m.prepare_holds
  pub enables_held : AreHeld (registered m.tree.clocks) (length m.desc.defs) m.steps m.enable_holds
