-- A course of drivers' events behind boot's entries.
use Rattle.std.specs.Prelude.{◌≡◌, ℕ, ◌+◌, ◌<◌, ◌≤◌, ◌&&◌, List, [], ◌∷◌, ◌++◌, Bool, true, false, Option, None, is_some, length, map, nat_lt, if◌then◌else◌}
use Rattle.std.specs.List.{list_all, AllByRecursion}
use Rattle.clk_base.specs.Description.{Description}
use Rattle.clk_base.specs.declared.event.Entry.{Entry}
use Rattle.clk_model.specs.Journal.{cost, Legal}
use Rattle.clk_model.specs.Lists.{is_at}
use Rattle.clk_model.specs.Ordered.{Progress, at_start, OrderedFrom}
use Rattle.clk_machine.specs.Run.{Run, in_flight}
use Rattle.drv_scripts.specs.Placed.{IsScript}
use Rattle.drv_scripts.specs.declared.bundle.Script.{Script}
use Rattle.driver_runs.specs.Events.{IsGoing}
use Rattle.driver_runs.specs.Moves.{can_move_at, AreNew, AllStand, AreDone, owed_by}
use Rattle.driver_runs.specs.declared.standing.Standing.{Standing}

-- the drivers' commands name clocks of the description
abbrev pub ArePlaced : Description → List Script → Type 0
ArePlaced defs drivers = AllByRecursion (IsScript (length defs)) drivers

-- no driver has made an event, no call is in flight, and a credit is left for each command
pub record BeginsCourse (run : Run) (drivers : List Script) (xs : List Standing) : Type 0 where
  pub new : AreNew drivers xs
  pub quiet : in_flight run.journal ≡ false
  pub credits : cost run.journal + owed_by None 1 drivers xs ≤ run.start.credits

-- the entries are of drivers with numbers from 1 up to this one
abbrev pub are_drivers : ℕ → List Entry → Bool
are_drivers count es = list_all (λ e. nat_lt 0 e.driver && nat_lt e.driver (count + 1)) es

-- drivers have made events since a core stood so: their entries are appended, each stands as its own entries tell, and the events are
-- those that the order names, of which this is left
pub record Course (first : Run) (drivers : List Script) (order : List ℕ) (xs : List Standing) (going : Option ℕ) (left : List ℕ) (core : Run) : Type 0 where
  pub entries : List Entry
  pub start : core.start ≡ first.start
  pub told : core.told ≡ first.told
  pub behind : core.behind ≡ first.behind
  pub journal : core.journal ≡ first.journal ++ entries
  pub legal : first.told ≡ true → Legal first.start first.journal → Legal core.start core.journal
  pub among : are_drivers (length drivers) entries ≡ true
  pub flies : IsGoing going core.journal
  pub whose : (k : ℕ) → is_at k going ≡ true → (0 < k) × (k ≤ length drivers)
  pub progress : List Progress
  pub stand : AllStand going 1 drivers xs progress entries
  pub ordered : (boot : Progress) (rest : List Entry) → OrderedFrom (boot ∷ progress) going left rest
      → OrderedFrom (boot ∷ map at_start (map (λ s. s.commands) drivers)) None order (entries ++ rest)
  pub credits : cost core.journal + owed_by going 1 drivers xs ≤ core.start.credits

-- such a course of events is under way, and its order has come to its end
abbrev pub IsUnderWay : List Script → List Standing → Option ℕ → Run → Type 0
IsUnderWay drivers xs going core = (first : Run) × (order : List ℕ) × Course first drivers order xs going [] core

-- this is the lowest numbered driver that can make an event
pub record IsNextAt (going : Option ℕ) (drivers : List Script) (xs : List Standing) (d : ℕ) : Type 0 where
  pub some : 0 < d
  pub within : d ≤ length drivers
  pub moves : can_move_at going drivers xs d ≡ true
  pub lower : (k : ℕ) → 0 < k → k < d → can_move_at going drivers xs k ≡ false

-- how much is left to do: twice the credits that are owed, and one while a call is in flight
abbrev pub effort : List Script → List Standing → Option ℕ → ℕ
effort drivers xs going = owed_by going 1 drivers xs + owed_by going 1 drivers xs + (if is_some going then 1 else 0)

-- a course of events went on, and less is left to do
pub record KeepsCourse (drivers : List Script) (xs : List Standing) (going : Option ℕ) (old : Run) (xs' : List Standing) (going' : Option ℕ) (new : Run) : Type 0 where
  pub keeps : (first : Run) (order : List ℕ) → Course first drivers order xs going [] old → Course first drivers order xs' going' [] new
  pub less : effort drivers xs' going' < effort drivers xs going

-- a course of events went on until each driver had answered all its commands
pub record HasEnded (drivers : List Script) (xs : List Standing) (going : Option ℕ) (old : Run) (xs' : List Standing) (new : Run) : Type 0 where
  pub keeps : (first : Run) (order : List ℕ) → Course first drivers order xs going [] old → Course first drivers order xs' None [] new
  pub done : AreDone drivers xs'
