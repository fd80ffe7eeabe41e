-- When the parts of a core stand for a state of the machine, and what an event does to both.
use Rattle.std.specs.Prelude.{◌≡◌, ℕ, ◌+◌, ◌*◌, ◌<◌, ◌≤◌, ◌||◌, true, ◌==◌, Bool, false, Some, is_some, if◌then◌else◌}
use Rattle.clk_base.specs.declared.call.Micro.{Micro}
use Rattle.clk_base.specs.declared.call.Micro.TheVariants as micro
use Rattle.clk_base.specs.declared.call.Sleeping.TheVariants as call
use Rattle.clk_base.specs.declared.event.Event.{Event}
use Rattle.clk_base.specs.declared.event.Event.TheVariants as event
use Rattle.clk_base.specs.declared.event.Reply.TheVariants as reply
use Rattle.clk_base.specs.declared.event.Turn.{Turn}
use Rattle.clk_base.specs.declared.event.Turn.TheVariants as turn
use Rattle.clk_model.specs.State.{State, registered}
use Rattle.clk_model.specs.Gates.{settled}
use Rattle.clk_model.specs.Machine.{next}
use Rattle.clk_model.specs.Journal.{slotless, is_paid, is_going}
use Rattle.clk_model.specs.Tier.{is_enable_tier}
use Rattle.clk_model.specs.Script.{plls}
use Rattle.clk_base.specs.Description.{Description}
use Rattle.clk_flight.specs.Flights.{Flies}
use Rattle.notifiers.specs.Chains.{Tells}
use Rattle.clk_model.specs.Begin.{most_credits}
use Rattle.core_parts.specs.Course.{IsAlong}
use Rattle.core_parts.specs.Holds.{TellsHolds}
use Rattle.clk_machine.specs.Parts.{Parts, steps_left}
use Rattle.clk_machine.specs.Sound.{IsSound}

-- the parts stand for a state: each has what the state says of it, and the bank tells the state's words
pub record Stands (m : Parts) (s : State) : Type 0 where
  pub defs : s.defs ≡ m.desc.defs
  pub regs : m.window.words ≡ Some s.regs
  pub clocks : s.clocks ≡ m.tree.clocks
  pub order : s.order ≡ m.tree.order
  pub handles : s.handles ≡ m.table.handles
  pub notifiers : Tells m.chains s.notifiers
  -- what is held for the change in flight
  pub prepare_holds : TellsHolds m.prepare_holds s.prepare_holds
  pub enable_holds : TellsHolds m.enable_holds s.enable_holds
  pub change : Flies s.notifiers m.flight s.change
  pub along : IsAlong m.course s.change
  pub credits : s.credits ≡ m.credits
  pub spent : s.spent ≡ m.spent
  pub steps : s.steps ≡ m.steps
  pub ignore_unused : s.ignore_unused ≡ m.ignore_unused

-- whether the bank tells its words
abbrev pub is_told : Parts → Bool
is_told m = is_some m.window.words

-- what stays in every event
pub record Remains (old new : Parts) : Type 0 where
  pub desc : new.desc ≡ old.desc
  pub told : is_told new ≡ is_told old
  pub size : new.window.size ≡ old.window.size
  pub behind : new.window.behind ≡ old.window.behind
  pub credits : new.credits ≡ old.credits
  pub ignore_unused : new.ignore_unused ≡ old.ignore_unused

-- what is done to a state, by parts that stood for it: its gates follow, a credit is spent, and these clocks are registered
pub record Becomes (old : Parts) (adds : ℕ → Bool) (does : State → State) (new : Parts) : Type 0 where
  pub remains : Remains old new
  pub spent : new.spent ≡ old.spent + 1
  pub flight : new.flight ≡ old.flight
  pub locks : new.window.locks ≡ old.window.locks
  pub left : steps_left new ≡ steps_left old
  pub steps : new.steps ≡ old.steps
  pub rows : (c : ℕ) → registered new.tree.clocks c ≡ (registered old.tree.clocks c || adds c)
  pub stands : (s : State) → Stands old s → IsSound old.window.size s → Stands new (record (settled s (does s)) { spent = s.spent + 1 })

-- no clock is registered
abbrev pub nothing : ℕ → Bool
nothing c = false

-- an event takes a state to one that the parts stand for, and the machine answers this turn
pub record Leads (s : State) (driver : ℕ) (event : Event) (turn : Turn) (new : Parts) : Type 0 where
  pub to : State
  pub next_ : next s driver event ≡ Some (to, slotless turn)
  pub stands : Stands new to

-- whether a step registers the clock
abbrev pub step_registers : Micro → ℕ → Bool
step_registers (micro.Register k) c = k.0 == c
step_registers _ c = false

-- whether an event that is answered so registers the clock: a probe that ends well at once, or the step of one that goes on
abbrev pub joins : Event → Turn → ℕ → Bool
joins (event.Begin (call.Probe k)) (turn.Done reply.Fine) c = k.0 == c
joins (event.Step m answer) t c = step_registers m c
joins _ t c = false

-- how many steps a call may come to where it goes on: the raise of the PLLs of a path or the lower of them, and the end; of a change of rate or
-- parent, of a sweep and of a probe as many as the most credits, since there is room for what its script weighs
abbrev pub most_steps : Description → Event → ℕ
most_steps defs (event.Begin (call.Prepare h)) = 34 * plls defs + 2
most_steps defs (event.Begin (call.Unprepare h)) = plls defs + 2
most_steps defs (event.Begin (call.SetRate h x)) = most_credits
most_steps defs (event.Begin (call.SetRateExclusive h x)) = most_credits
most_steps defs (event.Begin (call.SetRange h least most)) = most_credits
most_steps defs (event.Begin (call.SetParent h p)) = most_credits
most_steps defs (event.Begin (call.Probe c)) = most_credits
most_steps defs (event.Begin call.Sweep) = most_credits
most_steps defs e = 0

-- the credits that an event spends
abbrev pub price : Event → ℕ
price e = if is_paid e then 1 else 0

-- whether an event may start the lock of a PLL, or polls one
abbrev pub starts_or_polls : Event → Bool
starts_or_polls (event.Step (micro.Raise x) answer) = true
starts_or_polls (event.Step (micro.Poll y) answer) = true
starts_or_polls _ = false

-- an event of a driver with its turn takes the parts on, from each sound state that they stand for to the machine's next one
pub record Enters (old : Parts) (driver : ℕ) (event : Event) (turn : Turn) (new : Parts) : Type 0 where
  pub remains : Remains old new
  pub pays : new.spent ≡ old.spent + price event
  -- the enable tier leaves a change in flight, and else there is one where the turn says that the call goes on
  pub going : new.flight.going ≡ (if is_enable_tier event then old.flight.going else is_going turn)
  -- and a call that goes on behind an event of the other tier is its driver's
  pub driver_ : new.flight.going ≡ true → new.flight.driver ≡ (if is_enable_tier event then old.flight.driver else driver)
  -- a step leaves fewer steps to come, a call that begins and goes on as many as it may come to, and any other event no more
  pub fewer : is_paid event ≡ false → steps_left new < steps_left old
  pub begun : is_paid event ≡ true → is_going turn ≡ true → steps_left new ≤ most_steps old.desc.defs event
  pub no_more : is_paid event ≡ true → is_going turn ≡ false → steps_left new ≤ steps_left old
  -- the locks of PLLs stay, unless the event may start one or polls one
  pub locks : starts_or_polls event ≡ false → new.window.locks ≡ old.window.locks
  -- the enable tier leaves what comes next of a change in flight
  pub beside : is_enable_tier event ≡ true → new.flight ≡ old.flight
  pub rows : (c : ℕ) → registered new.tree.clocks c ≡ (registered old.tree.clocks c || joins event turn c)
  pub step : (s : State) → Stands old s → IsSound old.window.size s → Leads s driver event turn new

-- what an event of a driver with its turn does to the parts, whatever the bank tells: all of Enters but for states
pub record Proceeds (old : Parts) (driver : ℕ) (event : Event) (turn : Turn) (new : Parts) : Type 0 where
  pub remains : Remains old new
  pub pays : new.spent ≡ old.spent + price event
  pub going : new.flight.going ≡ (if is_enable_tier event then old.flight.going else is_going turn)
  pub driver_ : new.flight.going ≡ true → new.flight.driver ≡ (if is_enable_tier event then old.flight.driver else driver)
  pub fewer : is_paid event ≡ false → steps_left new < steps_left old
  pub begun : is_paid event ≡ true → is_going turn ≡ true → steps_left new ≤ most_steps old.desc.defs event
  pub no_more : is_paid event ≡ true → is_going turn ≡ false → steps_left new ≤ steps_left old
  pub locks : starts_or_polls event ≡ false → new.window.locks ≡ old.window.locks
  pub beside : is_enable_tier event ≡ true → new.flight ≡ old.flight
  pub rows : (c : ℕ) → registered new.tree.clocks c ≡ (registered old.tree.clocks c || joins event turn c)
