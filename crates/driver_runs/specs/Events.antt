-- An event of a driver, and what it changes.
use Rattle.std.specs.Prelude.{◌≡◌, ◌≢◌, ℕ, ◌+◌, ◌-◌, ◌<◌, ◌≤◌, ◌||◌, List, [], ◌∷◌, ◌++◌, Bool, true, false, Option, Some, None, is_none, length, if◌then◌else◌}
use Rattle.std.specs.List.{list_all}
use Rattle.clk_base.specs.declared.command.Act.{Act}
use Rattle.clk_base.specs.declared.command.Answer.{Answer}
use Rattle.clk_base.specs.declared.command.Command.{Command}
use Rattle.clk_base.specs.declared.event.Entry.{Entry}
use Rattle.clk_base.specs.declared.event.Event.{Event}
use Rattle.clk_base.specs.declared.event.Turn.{Turn}
use Rattle.clk_base.specs.declared.event.Turn.TheVariants as turn
use Rattle.clk_base.specs.declared.handle.Handle.{Handle}
use Rattle.clk_model.specs.Journal.{Answered, calls_of, cost, is_going, Legal}
use Rattle.clk_model.specs.Follows.{no_handles, handle_of, call_of, FollowsFrom}
use Rattle.clk_model.specs.Lists.{is_at}
use Rattle.clk_model.specs.Ordered.{Progress, is_atomic, can_take, going_after, progress_after, unskipped}
use Rattle.clk_model.specs.Tier.{is_step}
use Rattle.clk_machine.specs.Run.{Run, in_flight, driver_in_flight, Appends}
use Rattle.drv_scripts.specs.Placed.{NamesPlace, NamePlaces}
use Rattle.driver_runs.specs.Scripts.{are_calls}
use Rattle.driver_runs.specs.Standing.{left_of}
use Rattle.driver_runs.specs.Steps.{goes_on}
use Rattle.driver_runs.specs.declared.standing.Standing.{Standing}

-- ---- one event

-- this is the driver whose call is in flight behind a journal
abbrev pub IsGoing : Option ℕ → List Entry → Type 0
IsGoing None journal = in_flight journal ≡ false
IsGoing (Some d) journal = (in_flight journal ≡ true) × (driver_in_flight journal ≡ d)

-- a step may be made of the call in flight, or the call of a command may be begun
pub record MayEnter (run : Run) (steps : Bool) (held : Option Handle) (a : Act) : Type 0 where
  pub flies : steps ≡ true → in_flight run.journal ≡ true
  pub calls : steps ≡ false → is_none (call_of held a) ≡ false
  pub credit : steps ≡ false → cost run.journal < run.start.credits
  pub quiet : steps ≡ false → is_atomic a ≡ false → in_flight run.journal ≡ false
  pub place : NamesPlace (length run.start.defs) a

-- the next step of the call in flight was made, with fewer to come then, or the call of the command was begun; what never sleeps is answered at once
pub record Enters (old : Run) (d : ℕ) (steps : Bool) (held : Option Handle) (a : Act) (t : Turn) (new : Run) : Type 0 where
  pub event : Event
  pub driver : ℕ
  pub whose : driver ≡ (if steps then driver_in_flight old.journal else d)
  pub appends : Appends old driver event t new
  pub kind : is_step event ≡ steps
  pub calls : steps ≡ false → call_of held a ≡ Some event
  pub sleeps : steps ≡ false → is_going t ≡ true → is_atomic a ≡ false
  pub fewer : steps ≡ true → new.left < old.left

-- ---- one driver

-- the driver's own entries are whole calls, which follow its commands so far with the answers so far, and no command is skipped in front of the others
pub record HasCome (d : ℕ) (commands : List Command) (x : Standing) (mine : List Entry) : Type 0 where
  pub own : are_calls d false mine ≡ true
  pub passed : unskipped x.held.items (left_of commands x) ≡ left_of commands x
  pub follows : (ls : List Answered) (as_ : List Answer) → FollowsFrom x.held.items (left_of commands x) ls as_
      → FollowsFrom (no_handles commands) commands (calls_of mine ++ ls) (x.answers.items ++ as_)

-- so are those before its call in flight, which is that of its next command; behind its beginning stand its steps
pub record IsFlying (d : ℕ) (commands : List Command) (x : Standing) (mine : List Entry) : Type 0 where
  pub before : List Entry
  pub begin : Entry
  pub steps : List Entry
  pub split : mine ≡ before ++ begin ∷ steps
  pub come : HasCome d commands x before
  pub command : Command
  pub behind : List Command
  pub next : left_of commands x ≡ command ∷ behind
  pub calls : call_of (handle_of x.held.items command) command.act ≡ Some begin.event
  pub driver : begin.driver ≡ d
  pub kind : is_step begin.event ≡ false
  pub goes : begin.turn ≡ turn.Going
  pub own : list_all (goes_on d) steps ≡ true

-- a driver stands between two calls, or its call is in flight
abbrev pub Stands : ℕ → List Command → Standing → Bool → List Entry → Type 0
Stands d commands x false mine = HasCome d commands x mine
Stands d commands x true mine = IsFlying d commands x mine

-- a driver's progress is what its standing tells, but that skipped commands may stand in front of those that are left
pub record IsProgress (commands : List Command) (x : Standing) (p : Progress) : Type 0 where
  pub held : p.held ≡ x.held.items
  pub left : unskipped p.held p.left ≡ left_of commands x

-- how many credits a driver still needs: one a command that isn't answered, but for the one whose call is in flight
abbrev pub owed : List Command → Standing → Bool → ℕ
owed commands x flies = length (left_of commands x) - (if flies then 1 else 0)

-- a driver may make its next event
pub record MayMove (run : Run) (d : ℕ) (commands : List Command) (x : Standing) (going : Option ℕ) : Type 0 where
  pub flies : IsGoing going run.journal
  pub next : left_of commands x ≢ []
  pub passed : unskipped x.held.items (left_of commands x) ≡ left_of commands x
  pub credit : is_at d going ≡ false → cost run.journal < run.start.credits
  pub places : NamePlaces (length run.start.defs) commands
  pub can : (is_at d going || can_take going (left_of commands x)) ≡ true

-- a driver made its next event: its entry is appended, and the driver stands where the entry leaves it
pub record MakesEvent (old : Run) (d : ℕ) (commands : List Command) (x : Standing) (going : Option ℕ) (new : Run) (x' : Standing) (going' : Option ℕ) : Type 0 where
  pub entry : Entry
  pub start : new.start ≡ old.start
  pub told : new.told ≡ old.told
  pub behind : new.behind ≡ old.behind
  pub journal : new.journal ≡ old.journal ++ entry ∷ []
  pub legal : old.told ≡ true → Legal new.start new.journal
  pub driver : entry.driver ≡ d
  pub kind : is_at d going ≡ is_step entry.event
  pub after : going' ≡ going_after going entry
  pub flies : IsGoing going' new.journal
  pub others : (k : ℕ) → k ≢ d → is_at k going' ≡ is_at k going
  pub stands : (mine : List Entry) → Stands d commands x (is_at d going) mine → Stands d commands x' (is_at d going') (mine ++ entry ∷ [])
  pub progress : (p : Progress) → IsProgress commands x p → IsProgress commands x' (progress_after p entry.turn)
  pub paid : owed commands x' (is_at d going') + cost (entry ∷ []) ≤ owed commands x (is_at d going)
  -- a call that goes on leaves the driver where it stands
  pub same : is_at d going' ≡ true → x' ≡ x
  pub waits : is_at d going' ≡ true → is_at d going ≡ false → going ≡ None
  pub fewer : is_at d going ≡ true → new.left < old.left
