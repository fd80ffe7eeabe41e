-- What contracts see of a core: where it began, and its journal.
use Rattle.std.specs.Prelude.{◌≡◌, ◌↔◌, ℕ, ◌+◌, ◌<◌, ◌≤◌, false, if◌then◌else◌, List, [], ◌∷◌, ◌++◌, Bool, true, Option, Some, length, take}
use Rattle.std.specs.List.{All, list_any}
use Rattle.clk_base.specs.declared.call.Micro.{Micro}
use Rattle.clk_base.specs.declared.event.Entry.{Entry}
use Rattle.clk_base.specs.declared.event.Event.{Event}
use Rattle.clk_base.specs.declared.event.Event.TheVariants as event
use Rattle.clk_base.specs.declared.event.Reply.{Reply}
use Rattle.clk_base.specs.declared.event.Turn.{Turn}
use Rattle.clk_base.specs.declared.event.Turn.TheVariants as turn
use Rattle.clk_base.specs.Description.{Description}
use Rattle.clk_model.specs.State.{State, Change, registered}
use Rattle.clk_model.specs.Machine.{next}
use Rattle.clk_model.specs.Tier.{is_enable_tier}
use Rattle.clk_model.specs.Journal.{is_paid, is_going, slotless, replay, Legal, opening, cost, Polled}
use Rattle.clk_model.specs.Fed.{Fed}
use Rattle.clk_model.specs.Laws.EndCauses.{EndsCall}
use Rattle.core_parts.specs.declared.behind.Behind.{Behind}
use Rattle.clk_machine.specs.Parts.{Parts, steps_left}
use Rattle.clk_machine.specs.Polls.{IfPoll, IsAsked, asked_by}
use Rattle.clk_machine.specs.Stands.{Stands, is_told, joins}
use Rattle.clk_machine.specs.Sound.{IsReached, IsNarrow, IsPlaced}
use Rattle.core_parts.specs.Window.{HasDelays}

-- a core as its opening and its journal, and what it knows of its bank
pub record Run : Type 0 where
  pub start : State
  pub journal : List Entry
  -- whether the bank tells its words
  pub told : Bool
  -- what lies in the bank behind the words of the state, and no call changes: further words, and the delays of the locks of PLLs
  pub behind : Behind
  -- how many steps the call in flight may still come to, whatever the bank answers; none where there is no such call
  pub left : ℕ

-- the state of a core: its opening with its journal replayed
abbrev pub now_of : Run → State
now_of run = replay run.start run.journal

-- whether the clock was registered
abbrev pub was_registered : List Entry → ℕ → Bool
was_registered journal c = list_any (λ e. joins e.event e.turn c) journal

-- whether a call is in flight behind these entries: the last of them that isn't of the enable tier tells that one goes on
abbrev pub going_after : Bool → List Entry → Bool
going_after going [] = going
going_after going (e ∷ es) = going_after (if is_enable_tier e.event then going else is_going e.turn) es

-- whether one is behind a journal
abbrev pub in_flight : List Entry → Bool
in_flight journal = going_after false journal

-- the driver of the last of these entries that isn't of the enable tier, or else this one
abbrev pub driver_after : ℕ → List Entry → ℕ
driver_after d [] = d
driver_after d (e ∷ es) = driver_after (if is_enable_tier e.event then d else e.driver) es

-- the driver of the call in flight behind a journal
abbrev pub driver_in_flight : List Entry → ℕ
driver_in_flight journal = driver_after 0 journal

-- the clocks that a call names are clocks of the description, if an event begins one
abbrev pub BeginsPlaced : Description → Event → Type 0
BeginsPlaced defs (event.Begin what) = IsPlaced defs what
BeginsPlaced defs e = Unit {0}

-- so it is at each of these entries
abbrev pub ArePlaced : Description → List Entry → Type 0
ArePlaced defs entries = All (λ e. BeginsPlaced defs e.event) entries

-- an event of a driver answers the machine's turn, and its entry is appended
pub record Appends (old : Run) (driver : ℕ) (event : Event) (turn : Turn) (new : Run) : Type 0 where
  pub start : new.start ≡ old.start
  pub told : new.told ≡ old.told
  pub behind : new.behind ≡ old.behind
  pub entry : new.journal ≡ old.journal ++ record { driver = driver; event = event; turn = turn } ∷ []
  pub step : old.told ≡ true → next (now_of old) driver event ≡ Some (now_of new, slotless turn)
  pub legal : old.told ≡ true → Legal new.start new.journal
  -- no more steps are to come behind it, unless it begins a call that goes on
  pub no_more : is_paid event ≡ true → is_going turn ≡ false → new.left ≤ old.left

-- the next step of the call in flight was made: its entry is appended as its driver's, and fewer steps are to come
pub record StepsOn (old : Run) (turn : Turn) (new : Run) : Type 0 where
  pub made : Micro
  pub answer : Option Bool
  pub entry : Appends old (driver_in_flight old.journal) (event.Step made answer) turn new
  pub fewer : new.left < old.left

-- why a step is answered as it is: the call goes on exactly where a change is left in flight, and each end has its cause over the call's
-- own entries
pub record StepTurns (old new : Run) (given : Turn) : Type 0 where
  pub going : (given ≡ turn.Going) ↔ ((k : Change) × ((now_of new).change ≡ Some k))
  pub ended : (last : Entry) (r : Reply) → new.journal ≡ old.journal ++ last ∷ [] → given ≡ turn.Done r → EndsCall old.start old.journal last r

-- a journal, and how many entries it has room for
pub record Logged : Type 0 where
  pub entries : List Entry
  pub room : ℕ

-- the opening of a machine that was made with these words
abbrev pub start_of : Parts → List ℕ → State
start_of m words = opening m.desc.defs words m.ignore_unused m.credits

-- the state of a machine with this journal
abbrev pub state_of : Parts → List ℕ → Logged → State
state_of m words log = replay (start_of m words) log.entries

-- the core of a machine with this journal
abbrev pub run_of : Parts → List ℕ → Logged → Run
run_of m words log = record { start = start_of m words; journal = log.entries; told = is_told m; behind = m.window.behind; left = steps_left m }

-- the journal is a legal run of the machine, and the parts stand for its replay
pub record IsRun (m : Parts) (words : List ℕ) (log : Logged) : Type 0 where
  pub stands : is_told m ≡ true → Stands m (state_of m words log)
  pub legal : is_told m ≡ true → Legal (start_of m words) log.entries
  -- the journal leads to the state, and it is kept narrow
  pub reached : is_told m ≡ true → IsReached (length words) (state_of m words log)
  pub narrow : is_told m ≡ true → IsNarrow (length words) (state_of m words log)
  -- after every prefix the active clocks are fed
  pub fed : is_told m ≡ true → (n : ℕ) → Fed (replay (start_of m words) (take n log.entries))
  pub spent : cost log.entries ≡ m.spent
  pub room : m.credits + steps_left m ≤ m.spent + log.room
  -- a call is in flight where the journal says so, and it is the driver's whom the journal names
  pub going : m.flight.going ≡ in_flight log.entries
  pub driver_ : m.flight.going ≡ true → m.flight.driver ≡ driver_in_flight log.entries
  -- the PLL that is polled next was polled as often as the journal says, and the polls so far were answered by the delays of the locks
  pub polling : is_told m ≡ true → m.flight.going ≡ true → IfPoll m.flight.front (IsAsked m.window.locks (asked_by [] log.entries))
  pub polled : is_told m ≡ true → (delay : ℕ → ℕ) → HasDelays m.window.behind.delays delay → Polled delay log.entries
  pub size : m.window.size ≡ length words
  -- the calls of the journal name clocks of the description
  pub placed : ArePlaced m.desc.defs log.entries
  pub probed : (c : ℕ) → registered m.tree.clocks c ≡ was_registered log.entries c
