-- Journals: which are legal, what a driver finds in one, and the state that one begins from.
use Rattle.std.specs.Prelude.{◌≡◌, ℕ, ◌+◌, ◌==◌, List, [], ◌∷◌, ◌++◌, Bool, true, false, not, ◌&&◌, if◌then◌else◌, Option, Some, None, filter, length, replicate, count_by, nat_le}
use Rattle.std.specs.Option.{option_map_or}
use Rattle.clk_base.specs.declared.call.Micro.TheVariants as micro
use Rattle.clk_base.specs.declared.event.Event.{Event}
use Rattle.clk_base.specs.declared.event.Event.TheVariants as event
use Rattle.clk_base.specs.declared.event.Reply.{Reply}
use Rattle.clk_base.specs.declared.event.Reply.TheVariants as reply
use Rattle.clk_base.specs.declared.event.Turn.{Turn}
use Rattle.clk_base.specs.declared.event.Turn.TheVariants as turn
use Rattle.clk_base.specs.declared.event.Entry.{Entry}
use Rattle.clk_base.specs.Description.{Description}
use Rattle.reg_bank.specs.Registers.{Registers}
use Rattle.clk_model.specs.State.{State, unregistered_row}
use Rattle.clk_model.specs.Machine.{next}
use Rattle.clk_model.specs.Tier.{is_step}

-- a turn without the slot of its handle, which is the program's own
abbrev pub slotless : Turn → Turn
slotless (turn.Done (reply.Handle h)) = turn.Done (reply.Handle (record h { slot = 0 }))
slotless t = t

-- the state after a journal; an event that isn't defined changes nothing
abbrev pub replay : State → List Entry → State
replay s [] = s
replay s (e ∷ es) = replay (option_map_or (λ x. x.0) (next s e.driver e.event) s) es

-- a journal is legal where each event is defined where it stands and answers the machine's turn
abbrev pub Legal : State → List Entry → Type 0
Legal s [] = Unit {0}
Legal s (e ∷ es) = (t : State) × (next s e.driver e.event ≡ Some (t, slotless e.turn)) × Legal t es

-- the state with a description, words and credits, in which nothing is registered and nothing is held
abbrev pub opening : Description → Registers → Bool → ℕ → State
opening defs words ignore_unused credits = record {
  defs = defs;
  regs = words;
  clocks = replicate (length defs) unregistered_row;
  order = [];
  handles = [];
  notifiers = [];
  prepare_holds = [];
  enable_holds = [];
  change = None;
  credits = credits;
  spent = 0;
  steps = 0;
  ignore_unused = ignore_unused;
}

-- ---- what a driver finds in a journal

-- the entries of a driver
abbrev pub own : List Entry → ℕ → List Entry
own journal d = filter (λ e. e.driver == d) journal

-- a call with its reply
pub record Answered : Type 0 where
  pub call : Event
  pub reply : Reply

-- the reply of a step that ends a call, or what is found behind it
abbrev pub reply_at : Event → Turn → Option Reply → Option Reply
reply_at (event.Step m answer) (turn.Done r) behind = Some r
reply_at _ _ behind = behind

-- the reply of the first end among entries, if there is one
abbrev pub end_reply : List Entry → Option Reply
end_reply [] = None
end_reply (e ∷ es) = reply_at e.event e.turn (end_reply es)

-- the call that an entry begins, with its reply: that of the entry, or where the call goes on that of its end, if it has ended
abbrev pub call_at : Event → Turn → Option Reply → List Answered
call_at (event.Step m answer) _ _ = []
call_at call (turn.Done r) end = record { call = call; reply = r } ∷ []
call_at call turn.Going (Some r) = record { call = call; reply = r } ∷ []
call_at call turn.Going None = []

-- the calls of one driver's entries, in the order in which they begin
abbrev pub calls_of : List Entry → List Answered
calls_of [] = []
calls_of (e ∷ es) = call_at e.event e.turn (end_reply es) ++ calls_of es

-- the calls of a driver where they begin, each with the reply of its entry, or of its end where it goes on
abbrev pub calls : List Entry → ℕ → List Answered
calls journal d = calls_of (own journal d)

-- whether a call goes on behind an entry with this turn
abbrev pub is_going : Turn → Bool
is_going turn.Going = true
is_going (turn.Done r) = false

-- whether one driver's entries are one call after the other: while one goes on the next entry is a step of it, and else it is none
abbrev pub one_after_the_other : Bool → List Entry → Bool
one_after_the_other going [] = true
one_after_the_other going (e ∷ es) = (if going then is_step e.event else not (is_step e.event)) && one_after_the_other (is_going e.turn) es

-- so are the entries of a driver: between the beginning of a call that goes on and its end stand none of it but the call's steps
abbrev pub MakesOneCallAtATime : List Entry → ℕ → Type 0
MakesOneCallAtATime journal d = one_after_the_other false (own journal d) ≡ true

-- ---- polls

-- the PLLs that were polled since the last raise, after an event
abbrev pub asked_after : List ℕ → Event → List ℕ
asked_after asked (event.Step (micro.Raise x) answer) = []
asked_after asked (event.Step (micro.Poll y) answer) = y.0 ∷ asked
asked_after asked _ = asked

-- a poll answers yes exactly where its PLL has been polled, with this poll, at least as often as its delay says
abbrev pub AnswersByDelay : (ℕ → ℕ) → List ℕ → Event → Type 0
AnswersByDelay delay asked (event.Step (micro.Poll y) (Some locked)) = locked ≡ nat_le (delay y.0) (count_by (λ z. z == y.0) asked + 1)
AnswersByDelay delay asked _ = Unit {0}

-- each poll among these entries answers by its PLL's delay, where these PLLs were polled since the last raise before them
abbrev pub PolledFrom : (ℕ → ℕ) → List ℕ → List Entry → Type 0
PolledFrom delay asked [] = Unit {0}
PolledFrom delay asked (e ∷ es) = AnswersByDelay delay asked e.event × PolledFrom delay (asked_after asked e.event) es

-- the polls of a journal answer by the delays of the PLLs, counted from the last raise on
abbrev pub Polled : (ℕ → ℕ) → List Entry → Type 0
Polled delay journal = PolledFrom delay [] journal

-- ---- credits

-- whether an event spends a credit: each but a step
abbrev pub is_paid : Event → Bool
is_paid (event.Step m answer) = false
is_paid _ = true

-- how many credits a journal has spent
abbrev pub cost : List Entry → ℕ
cost journal = count_by (λ e. is_paid e.event) journal
