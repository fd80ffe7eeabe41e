-- Why a call that goes on ends as it does: each reply comes exactly where its cause holds, over the call's own entries.
use Rattle.std.specs.Prelude.{◌≡◌, ◌↔◌, ◌<◌, ℕ, ◌+◌, ◌==◌, List, [], ◌∷◌, ◌++◌, Bool, true, false, not, ◌&&◌, ◌||◌, if◌then◌else◌, Option, Some, None, nat_le, count_by}
use Rattle.std.specs.List.{list_any}
use Rattle.clk_base.specs.declared.call.Micro.{Micro}
use Rattle.clk_base.specs.declared.call.Micro.TheVariants as micro
use Rattle.clk_base.specs.declared.call.Sleeping.{Sleeping}
use Rattle.clk_base.specs.declared.event.Entry.{Entry}
use Rattle.clk_base.specs.declared.event.Errno.TheVariants as errno
use Rattle.clk_base.specs.declared.event.Event.{Event}
use Rattle.clk_base.specs.declared.event.Event.TheVariants as event
use Rattle.clk_base.specs.declared.event.Reply.{Reply}
use Rattle.clk_base.specs.declared.event.Reply.TheVariants as reply
use Rattle.clk_base.specs.declared.event.Turn.TheVariants as turn
use Rattle.clk_model.specs.State.{State}
use Rattle.clk_model.specs.Notices.{is_veto}
use Rattle.clk_model.specs.Step.{most_polls, is_yes}
use Rattle.clk_model.specs.Machine.{next}
use Rattle.clk_model.specs.Journal.{replay, Legal, PolledFrom}
use Rattle.clk_model.specs.Laws.Flight.{steps_of}

-- ---- PLLs that don't lock

-- the PLLs that answered no since the last raise, each as often as it did, after an event
abbrev pub noes_after : List ℕ → Event → List ℕ
noes_after noes (event.Step (micro.Raise x) answer) = []
noes_after noes (event.Step (micro.Poll y) answer) = if is_yes answer then noes else y.0 ∷ noes
noes_after noes _ = noes

-- whether an event is the last poll that a PLL has, and it answers no
abbrev pub is_last_no : ℕ → List ℕ → Event → Bool
is_last_no y noes (event.Step (micro.Poll z) answer) = (z.0 == y) && not (is_yes answer) && nat_le most_polls (count_by (λ w. w == y) noes + 1)
is_last_no y noes _ = false

-- whether all polls of a PLL since one raise have answered no, among these entries
abbrev pub never_locks : ℕ → List ℕ → List Entry → Bool
never_locks y noes [] = false
never_locks y noes (e ∷ es) = is_last_no y noes e.event || never_locks y (noes_after noes e.event) es

-- some PLL that was raised among these entries doesn't lock
abbrev pub TimesOut : List Entry → Type 0
TimesOut since = (y : ℕ) × (never_locks y [] since ≡ true)

-- ---- ends

-- a notice before the change is a veto
abbrev pub IsVetoed : List Entry → Type 0
IsVetoed since = list_any is_veto (steps_of since) ≡ true

-- a call is refused by EBUSY exactly where it was vetoed, by ETIMEDOUT exactly where a PLL that it raised doesn't lock, and else all
-- went well
pub record EndCauses (since : List Entry) (r : Reply) : Type 0 where
  pub vetoed : (r ≡ reply.Refused errno.EBUSY) ↔ IsVetoed since
  pub late : (r ≡ reply.Refused errno.ETIMEDOUT) ↔ TimesOut since
  pub done : (r ≡ reply.Fine) ↔ ((IsVetoed since → ⊥) × (TimesOut since → ⊥))

-- whether an event begins a call
abbrev pub begins_call : Event → Bool
begins_call (event.Begin what) = true
begins_call _ = false

-- these entries are those since a call has begun, up to its end: they are legal from the state behind its beginning, no other call
-- begins among them, and then comes its end
pub record IsCall (q : State) (d : ℕ) (what : Sleeping) (since : List Entry) (t : State) (r : Reply) : Type 0 where
  pub begun : State
  pub beginning : next q d (event.Begin what) ≡ Some (begun, turn.Going)
  pub legal : Legal begun since
  pub one : list_any (λ e. begins_call e.event) since ≡ false
  pub last : Micro
  pub answer : Option Bool
  pub ending : next (replay begun since) d (event.Step last answer) ≡ Some (t, turn.Done r)

-- each call that goes on ends for its cause
abbrev pub EndsHaveCauses : Type 0
EndsHaveCauses = (q t : State) (d : ℕ) (what : Sleeping) (since : List Entry) (r : Reply) → IsCall q d what since t r → EndCauses since r

-- an end in a journal is that of a call of the same driver that has begun in it, where none was in flight, and has its cause over the
-- entries since then
pub record EndsCall (start : State) (journal : List Entry) (last : Entry) (r : Reply) : Type 0 where
  pub before : List Entry
  pub first : Entry
  pub since : List Entry
  pub what : Sleeping
  pub parts : journal ≡ before ++ first ∷ since
  pub quiet : (replay start before).change ≡ None
  pub beginning : first.event ≡ event.Begin what
  pub own : last.driver ≡ first.driver
  pub one : list_any (λ e. begins_call e.event) since ≡ false
  pub causes : EndCauses since r

-- so it is with each end in each legal journal that starts with no call in flight
abbrev pub JournalsHaveCauses : Type 0
JournalsHaveCauses = (start : State) (journal : List Entry) (last : Entry) (m : Micro) (answer : Option Bool) (r : Reply) → start.change ≡ None → Legal start (journal ++ last ∷ [])
    → last.event ≡ event.Step m answer → last.turn ≡ turn.Done r → EndsCall start journal last r

-- a PLL that doesn't lock has a longer delay than a call polls, where entries are legal and their polls answer by the delays of the
-- PLLs, whatever was polled before
abbrev pub LateHaveDelays : Type 0
LateHaveDelays = (delay : ℕ → ℕ) (asked : List ℕ) (s : State) (since : List Entry) (y : ℕ) → Legal s since → PolledFrom delay asked since → never_locks y [] since ≡ true
    → most_polls < delay y
