-- That a call begins by the prepare tier's part of a state: what its beginning makes of that part, and what it is answered.
use Rattle.std.specs.Prelude.{◌≡◌, ℕ, ◌<◌, ◌||◌, List, Bool, true, false, Some, length, ◌⊎◌}
use Rattle.std.specs.Option.{option_map_or}
use Rattle.clk_base.specs.declared.call.Micro.{Micro}
use Rattle.clk_base.specs.declared.call.Sleeping.{Sleeping}
use Rattle.clk_base.specs.declared.call.Sleeping.TheVariants as call
use Rattle.clk_base.specs.declared.event.Errno.TheVariants as errno
use Rattle.clk_base.specs.declared.event.Event.TheVariants as event
use Rattle.clk_base.specs.declared.event.Reply.{Reply}
use Rattle.clk_base.specs.declared.event.Reply.TheVariants as reply
use Rattle.clk_base.specs.declared.event.Turn.{Turn}
use Rattle.clk_base.specs.declared.event.Turn.TheVariants as turn
use Rattle.clk_model.specs.State.{State, Change, handle_at}
use Rattle.clk_model.specs.Holders.{is_enabled}
use Rattle.clk_model.specs.Round.{wiring}
use Rattle.clk_model.specs.Begin.{starts, change_of, begun}
use Rattle.clk_model.specs.Machine.{next}
use Rattle.clk_model.specs.Prep.{is_sweep, prep}
use Rattle.clk_model.specs.Wired.{IsWired}
use Rattle.clk_model.specs.Laws.PlansRead.{asks, plans, no_room}

-- a call comes to the same in two states, in the first to x and in the second to y: it is answered alike and leaves the same part of
-- the prepare tier; or it goes on with the same change, where there is room for it, in states that have the same part until then
pub data ComesAlike (s t : State) (x y : State × Turn) : Type 0 where
  answered : (r : Reply) → x.1 ≡ turn.Done r → y.1 ≡ turn.Done r → prep y.0 ≡ prep x.0 → ComesAlike s t x y
  sets_out : (n n' : State) (k : Change) → x ≡ starts s n k → y ≡ starts t n' k → n.steps ≡ s.steps → n'.steps ≡ t.steps → prep n' ≡ prep n
      → ComesAlike s t x y

-- whether a call looks at the enables of its handle and finds one: a put and an unprepare look
abbrev pub finds_enable : State → Sleeping → Bool
finds_enable s (call.Put h) = option_map_or is_enabled (handle_at s.handles h.number) false
finds_enable s (call.Unprepare h) = option_map_or is_enabled (handle_at s.handles h.number) false
finds_enable s _ = false

-- where the prepare tier's part of two states is the same, over a wired tree, a call other than the sweep comes to the same, if it
-- finds an enable in both or in neither
abbrev pub BeginsReadPrep : Type 0
BeginsReadPrep = (s t : State) (d : ℕ) (what : Sleeping) → IsWired (length s.regs) (wiring s) → prep t ≡ prep s → is_sweep what ≡ false
    → finds_enable t what ≡ finds_enable s what → ComesAlike s t (begun s d what) (begun t d what)

-- whether a call is decided by the prepare tier's part alone: it asks for a rate or a parent, or changes one by a plan
abbrev pub is_decided : Sleeping → Bool
is_decided what = asks what || plans what

-- what is decided of such a call in a state is what is decided of it over that part itself: the same answer, or the same change with its
-- plan and its script, where there is room for it
abbrev pub DecisionsReadPrep : Type 0
DecisionsReadPrep = (s : State) (d : ℕ) (what : Sleeping) → IsWired (length s.regs) (wiring s) → is_decided what ≡ true
    → ComesAlike s (prep s) (begun s d what) (begun (prep s) d what)

-- a call that finds an enable is kept from giving back what it names: nothing changes
abbrev pub IsKeptBack : State → State × Turn → Type 0
IsKeptBack s x = (x ≡ (s, turn.Done (reply.Refused errno.EBUSY))) ⊎ (x ≡ (s, turn.Done reply.Warn))

-- if the call finds none in the other state, it comes to the same or is kept back in the first
abbrev pub BareBeginsReadPrep : Type 0
BareBeginsReadPrep = (s t : State) (d : ℕ) (what : Sleeping) → IsWired (length s.regs) (wiring s) → prep t ≡ prep s → is_sweep what ≡ false
    → finds_enable t what ≡ false → IsKeptBack s (begun s d what) ⊎ ComesAlike s t (begun s d what) (begun t d what)

-- ---- room

-- beginnings with the same turn leave the same part; or the call would go on in both, and lacks the room for the entries of its
-- steps in the one in which more steps were made before: there nothing changes
pub data BeginsAlike (s t : State) (x y : State × Turn) : Type 0 where
  alike : y.1 ≡ x.1 → prep y.0 ≡ prep x.0 → BeginsAlike s t x y
  first_lacks_room : t.steps < s.steps → x.1 ≡ no_room → prep x.0 ≡ prep s → y.1 ≡ turn.Going → BeginsAlike s t x y
  second_lacks_room : s.steps < t.steps → x.1 ≡ turn.Going → y.1 ≡ no_room → prep y.0 ≡ prep t → BeginsAlike s t x y

-- a call that begins in the first state, and leads to state u with this turn, begins in the second too
pub record BegunAlike (s t : State) (d : ℕ) (what : Sleeping) (u : State) (x : Turn) : Type 0 where
  pub after : State
  pub turn_ : Turn
  pub begins : next t d (event.Begin what) ≡ Some (after, turn_)
  pub alike : BeginsAlike s t (u, x) (after, turn_)

-- so it is where the part is the same and a credit is left in the second state
abbrev pub EventsReadPrep : Type 0
EventsReadPrep = (s t u : State) (d : ℕ) (what : Sleeping) (x : Turn) → IsWired (length s.regs) (wiring s) → prep t ≡ prep s → is_sweep what ≡ false
    → finds_enable t what ≡ finds_enable s what → t.spent < t.credits → next s d (event.Begin what) ≡ Some (u, x) → BegunAlike s t d what u x

-- ---- the sweep

-- what the beginning of a sweep leaves: nothing to do where it is switched off in both states, and nothing where room is lacking;
-- else the part that it has in the second with any script, since what is left of a sweep is no part of the prepare tier
pub data SweepComes (s t : State) (d : ℕ) (x : State × Turn) : Type 0 where
  switched_off : x ≡ (s, turn.Done reply.Fine) → begun t d call.Sweep ≡ (t, turn.Done reply.Fine) → SweepComes s t d x
  lacks_room : x ≡ (s, no_room) → SweepComes s t d x
  goes_on : x.1 ≡ turn.Going → ((ms : List Micro) → let u : State = record t { change = Some (change_of t d call.Sweep ms) } in prep u ≡ prep x.0)
      → SweepComes s t d x

-- so it is where the part is the same, over a wired tree
abbrev pub SweepsBeginByPrep : Type 0
SweepsBeginByPrep = (s t : State) (d : ℕ) → IsWired (length s.regs) (wiring s) → prep t ≡ prep s → SweepComes s t d (begun s d call.Sweep)
