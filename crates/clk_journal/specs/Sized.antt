-- An entry whose numbers are of their types' sizes, and one that names clocks and drivers that are there: together it can be told.
use Rattle.std.specs.Prelude.{◌<◌, ◌^◌, List, [], ◌∷◌, Option, Some, None, length}
use Rattle.std.specs.List.{AllByRecursion}
use Rattle.std.specs.Int.Signed.{mag}
use Rattle.clk_base.specs.declared.call.Micro.{Micro}
use Rattle.clk_base.specs.declared.call.Micro.TheVariants as micro
use Rattle.clk_base.specs.declared.call.Sleeping.{Sleeping}
use Rattle.clk_base.specs.declared.call.Sleeping.TheVariants as call
use Rattle.clk_base.specs.declared.clock.ClockId.{ClockId}
use Rattle.clk_base.specs.declared.event.Entry.{Entry}
use Rattle.clk_base.specs.declared.event.Event.{Event}
use Rattle.clk_base.specs.declared.event.Event.TheVariants as event
use Rattle.clk_base.specs.declared.event.Reply.TheVariants as reply
use Rattle.clk_base.specs.declared.event.Turn.{Turn}
use Rattle.clk_base.specs.declared.event.Turn.TheVariants as turn
use Rattle.clk_base.specs.Description.{Description}
use Rattle.clk_journal.specs.Told.{IsNumber, IsSmall, IsPolicy, IsPolled}

-- ---- numbers of their types' sizes

-- the numbers of a call
abbrev pub IsSizedCall : Sleeping → Type 0
IsSizedCall (call.Get found) = Unit {0}
IsSizedCall (call.Put h) = IsSmall h.number
IsSizedCall (call.Prepare h) = IsSmall h.number
IsSizedCall (call.Unprepare h) = IsSmall h.number
IsSizedCall (call.GetRate h) = IsSmall h.number
IsSizedCall (call.RoundRate h x) = IsSmall h.number × IsNumber x
IsSizedCall (call.SetRate h x) = IsSmall h.number × IsNumber x
IsSizedCall (call.SetRateExclusive h x) = IsSmall h.number × IsNumber x
IsSizedCall (call.SetRange h least most) = IsSmall h.number × IsNumber least × IsNumber most
IsSizedCall (call.SetParent h p) = IsSmall h.number
IsSizedCall (call.GetParent h) = IsSmall h.number
IsSizedCall (call.ExclusiveGet h) = IsSmall h.number
IsSizedCall (call.ExclusivePut h) = IsSmall h.number
IsSizedCall (call.NotifierAdd h id priority policy) = IsSmall h.number × IsSmall id × (mag priority < 2 ^ 31) × IsPolicy policy
IsSizedCall (call.NotifierRemove h id) = IsSmall h.number × IsSmall id
IsSizedCall (call.Probe c) = Unit {0}
IsSizedCall call.Sweep = Unit {0}

-- the numbers of a step
abbrev pub IsSizedStep : Micro → Type 0
IsSizedStep (micro.Notify kind c id old new) = IsSmall id × IsNumber old × IsNumber new
IsSizedStep (micro.WriteMux c place) = IsSmall place
IsSizedStep m = Unit {0}

-- the numbers of an event
abbrev pub IsSizedEvent : Event → Type 0
IsSizedEvent (event.Enable number) = IsSmall number
IsSizedEvent (event.Disable number) = IsSmall number
IsSizedEvent (event.Running number) = IsSmall number
IsSizedEvent (event.Begin what) = IsSizedCall what
IsSizedEvent (event.Step m answer) = IsSizedStep m

-- the numbers of a turn
abbrev pub IsSizedTurn : Turn → Type 0
IsSizedTurn (turn.Done (reply.Handle h)) = IsSmall h.number
IsSizedTurn (turn.Done (reply.Rate r)) = IsNumber r
IsSizedTurn t = Unit {0}

-- the numbers of an entry are of the sizes that the program's types give them
pub record IsSized (e : Entry) : Type 0 where
  pub event_ : IsSizedEvent e.event
  pub turn_ : IsSizedTurn e.turn

-- ---- clocks and drivers that are there

-- a clock, if there is one
abbrev pub one_clock : Option ClockId → List ClockId
one_clock None = []
one_clock (Some c) = c ∷ []

-- the clocks that a call names
abbrev pub clocks_in_call : Sleeping → List ClockId
clocks_in_call (call.Get found) = one_clock found
clocks_in_call (call.SetParent h p) = p ∷ []
clocks_in_call (call.Probe c) = c ∷ []
clocks_in_call what = []

-- the clocks that a step names
abbrev pub clocks_in_step : Micro → List ClockId
clocks_in_step (micro.Notify kind c id old new) = c ∷ []
clocks_in_step (micro.Raise x) = x ∷ []
clocks_in_step (micro.Poll y) = y ∷ []
clocks_in_step (micro.Fall y) = y ∷ []
clocks_in_step (micro.HoldPrepare x) = x ∷ []
clocks_in_step (micro.HoldEnable x) = x ∷ []
clocks_in_step (micro.Relink c p) = c ∷ p ∷ []
clocks_in_step (micro.WriteMux c place) = c ∷ []
clocks_in_step (micro.DropEnable x) = x ∷ []
clocks_in_step (micro.DropPrepare x) = x ∷ []
clocks_in_step (micro.Lower x) = x ∷ []
clocks_in_step (micro.Visit c) = c ∷ []
clocks_in_step (micro.Register c) = c ∷ []
clocks_in_step (micro.Settle c) = c ∷ []
clocks_in_step (micro.Close c) = c ∷ []
clocks_in_step (micro.Unpower c) = c ∷ []
clocks_in_step micro.End = []

-- the clocks that an event names
abbrev pub clocks_in_event : Event → List ClockId
clocks_in_event (event.Begin what) = clocks_in_call what
clocks_in_event (event.Step m answer) = clocks_in_step m
clocks_in_event what = []

-- the clocks that a turn names
abbrev pub clocks_in_turn : Turn → List ClockId
clocks_in_turn (turn.Done (reply.Clock found)) = one_clock found
clocks_in_turn t = []

-- these are clocks of the description
abbrev pub AreThere : Description → List ClockId → Type 0
AreThere defs clocks = AllByRecursion (λ c. c.0 < length defs) clocks

-- a poll in this event has its answer
abbrev pub IsAnswered : Event → Type 0
IsAnswered (event.Step m answer) = IsPolled m answer
IsAnswered what = Unit {0}

-- an entry names clocks of the description, and a poll in it has its answer
pub record NamesClocks (defs : Description) (e : Entry) : Type 0 where
  pub event_ : AreThere defs (clocks_in_event e.event)
  pub turn_ : AreThere defs (clocks_in_turn e.turn)
  pub answered : IsAnswered e.event

-- the clocks that a call names where an event begins it
abbrev pub clocks_begun : Event → List ClockId
clocks_begun (event.Begin what) = clocks_in_call what
clocks_begun what = []

-- the calls that begin among these entries name clocks of the description
abbrev pub CallsNameClocks : Description → List Entry → Type 0
CallsNameClocks defs entries = AllByRecursion (λ e. AreThere defs (clocks_begun e.event)) entries
