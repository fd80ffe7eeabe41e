-- What a line of a journal tells of its entry.
use Rattle.std.specs.Prelude.{◌≡◌, ℕ, ◌<◌, ◌^◌, ◌==◌, ◌&&◌, not, List, [], Bool, true, false, if◌then◌else◌, Option, Some, None, length, slice_index_or, codes}
use Rattle.std.specs.List.{list_all}
use Rattle.std.specs.Str.{bytes_eq}
use Rattle.std.specs.Int.Signed.{mag}
use Rattle.clk_base.specs.declared.call.Micro.{Micro}
use Rattle.clk_base.specs.declared.call.Micro.TheVariants as micro
use Rattle.clk_base.specs.declared.call.Sleeping.{Sleeping}
use Rattle.clk_base.specs.declared.call.Sleeping.TheVariants as call
use Rattle.clk_base.specs.declared.clock.ClockId.{ClockId}
use Rattle.clk_base.specs.declared.event.Entry.{Entry}
use Rattle.clk_base.specs.declared.event.Errno.TheVariants as errno
use Rattle.clk_base.specs.declared.event.Event.{Event}
use Rattle.clk_base.specs.declared.event.Event.TheVariants as event
use Rattle.clk_base.specs.declared.event.Reply.{Reply}
use Rattle.clk_base.specs.declared.event.Reply.TheVariants as reply
use Rattle.clk_base.specs.declared.event.Turn.{Turn}
use Rattle.clk_base.specs.declared.event.Turn.TheVariants as turn
use Rattle.clk_base.specs.declared.handle.Handle.{Handle}
use Rattle.clk_base.specs.declared.handle.Policy.{Policy}
use Rattle.clk_base.specs.declared.handle.Policy.TheVariants as policy
use Rattle.clk_base.specs.Description.{Description, name_of, clock_named, HasDistinctNames}
use Rattle.clk_model.specs.Text.{Word}

-- ---- what a line tells

-- a handle of a driver by its number: where the program keeps it isn't told
abbrev pub told_handle : ℕ → Handle → Handle
told_handle d h = record { number = h.number; slot = 0; driver = d }

-- what a get found, or a parent. No clock is printed as `-`, and so is a clock of that name: it tells that clock if there is one. A get
-- that answers that there is no such clock tells none
abbrev pub told_found : Description → Bool → Option ClockId → Option ClockId
told_found defs absent None = if absent then None else clock_named defs (codes "-")
told_found defs absent (Some c) = if absent && bytes_eq (name_of defs c.0) (codes "-") then None else Some c

-- a call of a driver, with handles of that driver
abbrev pub told_call : Description → Bool → ℕ → Sleeping → Sleeping
told_call defs absent d (call.Get found) = call.Get (told_found defs absent found)
told_call defs absent d (call.Put h) = call.Put (told_handle d h)
told_call defs absent d (call.Prepare h) = call.Prepare (told_handle d h)
told_call defs absent d (call.Unprepare h) = call.Unprepare (told_handle d h)
told_call defs absent d (call.GetRate h) = call.GetRate (told_handle d h)
told_call defs absent d (call.RoundRate h x) = call.RoundRate (told_handle d h) x
told_call defs absent d (call.SetRate h x) = call.SetRate (told_handle d h) x
told_call defs absent d (call.SetRateExclusive h x) = call.SetRateExclusive (told_handle d h) x
told_call defs absent d (call.SetRange h least most) = call.SetRange (told_handle d h) least most
told_call defs absent d (call.SetParent h p) = call.SetParent (told_handle d h) p
told_call defs absent d (call.GetParent h) = call.GetParent (told_handle d h)
told_call defs absent d (call.ExclusiveGet h) = call.ExclusiveGet (told_handle d h)
told_call defs absent d (call.ExclusivePut h) = call.ExclusivePut (told_handle d h)
told_call defs absent d (call.NotifierAdd h id priority policy) = call.NotifierAdd (told_handle d h) id priority policy
told_call defs absent d (call.NotifierRemove h id) = call.NotifierRemove (told_handle d h) id
told_call defs absent d (call.Probe c) = call.Probe c
told_call defs absent d call.Sweep = call.Sweep

-- what the bank answered to a step: only a poll asks it
abbrev pub told_answer : Micro → Option Bool → Option Bool
told_answer (micro.Poll y) answer = answer
told_answer m answer = None

-- an event of a driver
abbrev pub told_event : Description → Bool → ℕ → Event → Event
told_event defs absent d (event.Enable number) = event.Enable number
told_event defs absent d (event.Disable number) = event.Disable number
told_event defs absent d (event.Running number) = event.Running number
told_event defs absent d (event.Begin what) = event.Begin (told_call defs absent d what)
told_event defs absent d (event.Step m answer) = event.Step m (told_answer m answer)

-- a reply to a driver
abbrev pub told_reply : Description → ℕ → Reply → Reply
told_reply defs d (reply.Handle h) = reply.Handle (told_handle d h)
told_reply defs d (reply.Clock c) = reply.Clock (told_found defs false c)
told_reply defs d r = r

-- a turn of a driver
abbrev pub told_turn : Description → ℕ → Turn → Turn
told_turn defs d turn.Going = turn.Going
told_turn defs d (turn.Done r) = turn.Done (told_reply defs d r)

-- whether a turn says that there is no such clock
abbrev pub is_absent : Turn → Bool
is_absent (turn.Done (reply.Refused errno.ENOENT)) = true
is_absent t = false

-- the entry as its line tells it: each handle is the driver's own, wherever the program keeps it
abbrev pub told_entry : Description → Entry → Entry
told_entry defs e = record { driver = e.driver; event = told_event defs (is_absent e.turn) e.driver e.event; turn = told_turn defs e.driver e.turn }

-- ---- which entries can be told

-- a number of at most 64 bits
abbrev pub IsNumber : ℕ → Type 0
IsNumber n = n < 2 ^ 64

-- a number of 32 bits
abbrev pub IsSmall : ℕ → Type 0
IsSmall n = n < 2 ^ 32

-- the policy's rate is such a number
abbrev pub IsPolicy : Policy → Type 0
IsPolicy policy.Accept = Unit {0}
IsPolicy (policy.VetoAbove r) = IsNumber r
IsPolicy (policy.VetoBelow r) = IsNumber r
IsPolicy policy.VetoAll = Unit {0}

-- a clock of the description, where there is one
abbrev pub IsThere : Description → Option ClockId → Type 0
IsThere defs None = Unit {0}
IsThere defs (Some c) = c.0 < length defs

-- the call names clocks of the description, and its numbers are of their sizes
abbrev pub IsCall : Description → Sleeping → Type 0
IsCall defs (call.Get found) = IsThere defs found
IsCall defs (call.Put h) = IsSmall h.number
IsCall defs (call.Prepare h) = IsSmall h.number
IsCall defs (call.Unprepare h) = IsSmall h.number
IsCall defs (call.GetRate h) = IsSmall h.number
IsCall defs (call.RoundRate h x) = IsSmall h.number × IsNumber x
IsCall defs (call.SetRate h x) = IsSmall h.number × IsNumber x
IsCall defs (call.SetRateExclusive h x) = IsSmall h.number × IsNumber x
IsCall defs (call.SetRange h least most) = IsSmall h.number × IsNumber least × IsNumber most
IsCall defs (call.SetParent h p) = IsSmall h.number × (p.0 < length defs)
IsCall defs (call.GetParent h) = IsSmall h.number
IsCall defs (call.ExclusiveGet h) = IsSmall h.number
IsCall defs (call.ExclusivePut h) = IsSmall h.number
IsCall defs (call.NotifierAdd h id priority policy) = IsSmall h.number × IsSmall id × (mag priority < 2 ^ 31) × IsPolicy policy
IsCall defs (call.NotifierRemove h id) = IsSmall h.number × IsSmall id
IsCall defs (call.Probe c) = c.0 < length defs
IsCall defs call.Sweep = Unit {0}

-- so does the step
abbrev pub IsStep : Description → Micro → Type 0
IsStep defs (micro.Notify kind c id old new) = (c.0 < length defs) × IsSmall id × IsNumber old × IsNumber new
IsStep defs (micro.Raise x) = x.0 < length defs
IsStep defs (micro.Poll y) = y.0 < length defs
IsStep defs (micro.Fall y) = y.0 < length defs
IsStep defs (micro.HoldPrepare x) = x.0 < length defs
IsStep defs (micro.HoldEnable x) = x.0 < length defs
IsStep defs (micro.Relink c p) = (c.0 < length defs) × (p.0 < length defs)
IsStep defs (micro.WriteMux c place) = (c.0 < length defs) × IsSmall place
IsStep defs (micro.DropEnable x) = x.0 < length defs
IsStep defs (micro.DropPrepare x) = x.0 < length defs
IsStep defs (micro.Lower x) = x.0 < length defs
IsStep defs (micro.Visit c) = c.0 < length defs
IsStep defs (micro.Register c) = c.0 < length defs
IsStep defs (micro.Settle c) = c.0 < length defs
IsStep defs (micro.Close c) = c.0 < length defs
IsStep defs (micro.Unpower c) = c.0 < length defs
IsStep defs micro.End = Unit {0}

-- a poll has an answer
abbrev pub IsPolled : Micro → Option Bool → Type 0
IsPolled (micro.Poll y) None = ⊥
IsPolled m answer = Unit {0}

-- so does the event, and a poll in it has an answer
abbrev pub IsEvent : Description → Event → Type 0
IsEvent defs (event.Enable number) = IsSmall number
IsEvent defs (event.Disable number) = IsSmall number
IsEvent defs (event.Running number) = IsSmall number
IsEvent defs (event.Begin what) = IsCall defs what
IsEvent defs (event.Step m answer) = IsStep defs m × IsPolled m answer

-- so does the turn
abbrev pub IsTurn : Description → Turn → Type 0
IsTurn defs turn.Going = Unit {0}
IsTurn defs (turn.Done (reply.Handle h)) = IsSmall h.number
IsTurn defs (turn.Done (reply.Rate r)) = IsNumber r
IsTurn defs (turn.Done (reply.Clock c)) = IsThere defs c
IsTurn defs (turn.Done r) = Unit {0}

-- an entry of one of these drivers that can be told over a description
pub record CanBeTold (defs : Description) (names : List Word) (e : Entry) : Type 0 where
  pub driver_ : e.driver < length names
  pub event_ : IsEvent defs e.event
  pub turn_ : IsTurn defs e.turn

-- whether a byte neither parts two words nor ends a line
abbrev pub is_inside : ℕ → Bool
is_inside b = not (b == 32) && not (b == 10)

-- a word that isn't empty and has neither a blank nor the end of a line
abbrev pub is_whole : Word → Bool
is_whole w = not (length w == 0) && list_all is_inside w

-- names that tell clocks and drivers apart: whole words, no two clocks and no two drivers have the same
pub record TellApart (defs : Description) (names : List Word) : Type 0 where
  pub clocks : HasDistinctNames defs
  pub whole : (c : ℕ) → c < length defs → is_whole (name_of defs c) ≡ true
  pub drivers : (a b : ℕ) → a < length names → b < length names → slice_index_or names a [] ≡ slice_index_or names b [] → a ≡ b
  pub named : (d : ℕ) → d < length names → is_whole (slice_index_or names d []) ≡ true
