-- What a core keeps of a change of rate besides its flight: the planned chain, and the clocks whose notifiers are still to be told.
use Rattle.std.specs.Prelude.{◌≡◌, ℕ, ◌+◌, ◌≤◌, ◌==◌, ◌&&◌, ◌||◌, List, [], ◌∷◌, Bool, true, false, Option, Some, None, if◌then◌else◌, option_map, find, length, slice_index, slice_index_or}
use Rattle.std.specs.List.{AllByRecursion}
use Rattle.std.specs.Option.{option_map_or}
use Rattle.clk_base.specs.declared.call.Micro.{Micro}
use Rattle.clk_base.specs.declared.call.Micro.TheVariants as micro
use Rattle.clk_base.specs.Description.{kind_of}
use Rattle.reg_bank.specs.Registers.{Registers}
use Rattle.clk_model.specs.Lists.{is_at}
use Rattle.clk_model.specs.State.{Change, ChainStep}
use Rattle.clk_model.specs.Round.{Wiring, parent_rate_in}
use Rattle.clk_model.specs.Chain.{setting}
use Rattle.clk_flight.specs.declared.front.Front.{Front}
use Rattle.clk_flight.specs.declared.front.Front.TheVariants.{Posts}
use Rattle.clk_flight.specs.Flights.{FlightState}
use Rattle.notifiers.specs.declared.notifier.Notifier.{Notifier}
use Rattle.change_walk.specs.declared.changes.Changed.{Changed}
use Rattle.core_parts.specs.InFlight.{changes_rate}

-- the planned chain, and the clocks with notifiers that are still to be visited, each with its rate before the change and its planned one
pub record CourseState : Type 0 where
  pub chain : List ChainStep
  pub notified : List Changed

-- the planned rate of a clock of a chain
abbrev pub planned_along : List ChainStep → ℕ → Option ℕ
planned_along ks c = option_map (λ k. k.rate) (find (λ k. k.clock == c) ks)

-- that rate, but of the clock that isn't set after a timeout
abbrev pub planned_unless : Option ℕ → List ChainStep → ℕ → Option ℕ
planned_unless missed ks c = if is_at c missed then None else planned_along ks c

-- the registers with the setting of a clock of a chain
abbrev pub set_along : Option ℕ → List ChainStep → Wiring → ℕ → Registers
set_along missed ks w c = option_map_or (λ planned. setting (kind_of w.defs c) (parent_rate_in w c) planned w.regs) (planned_unless missed ks c) w.regs

-- how many notifiers a clock has
abbrev pub notifiers_at : List (List Notifier) → ℕ → ℕ
notifiers_at chains c = length (slice_index_or chains c [])

-- the clock that a step visits
abbrev pub visited_by : Micro → Option ℕ
visited_by (micro.Visit c) = Some c.0
visited_by _ = None

-- whether the first of these clocks is that one, and these clocks without the first
abbrev pub begins_with : ℕ → List Changed → Bool
begins_with c [] = false
begins_with c (n ∷ ns) = n.clock.0 == c

abbrev pub behind_first : List Changed → List Changed
behind_first [] = []
behind_first (n ∷ ns) = ns

-- these clocks behind the visit of a clock with so many notifiers
abbrev pub behind_visit : ℕ → List Changed → List Changed
behind_visit count ns = if count == 0 then ns else behind_first ns

-- whether the visited clocks that have notifiers are these, one after the other
abbrev pub tells_all : (ℕ → ℕ) → List Micro → List Changed → Bool
tells_all count [] ns = true
tells_all count (m ∷ ms) ns =
    option_map_or (λ c. (count c == 0 || begins_with c ns) && tells_all count ms (behind_visit (count c) ns)) (visited_by m) (tells_all count ms ns)

-- the notices of a changed rate that stand in front are to notifiers that the clock has
abbrev pub PostsFit : (ℕ → ℕ) → Front → Type 0
PostsFit count (Posts c told left old new) = told + left ≤ count c.0
PostsFit count _ = Unit {0}

-- what is told of a change of rate fits the notifiers of its clocks
pub record TellsAlong (count : ℕ → ℕ) (notified : List Changed) (f : FlightState) : Type 0 where
  pub front : PostsFit count f.front
  pub visits : tells_all count f.left notified ≡ true

-- a change goes along a course: it has its chain, and the rates of the clocks that are to be told
pub record GoesAlong (course : CourseState) (k : Change) : Type 0 where
  pub chain : k.chain ≡ course.chain
  pub rates : AllByRecursion (λ n. (n.before ≡ slice_index k.before n.clock.0) × (n.after ≡ slice_index k.outcome n.clock.0)) course.notified

-- so does a change of rate of a state
abbrev pub IsAlong : CourseState → Option Change → Type 0
IsAlong course None = Unit {0}
IsAlong course (Some k) = changes_rate k.call ≡ true → GoesAlong course k
