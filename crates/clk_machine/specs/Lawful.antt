-- What holds of each journal of a core, whatever its calls are, and wherever the enables and disables of other drivers stand.
use Rattle.std.specs.Prelude.{◌≡◌, ◌⊎◌, ℕ, List, [], ◌∷◌, ◌++◌, Bool, true, false, Option, Some, None, take, filter}
use Rattle.std.specs.List.{list_any}
use Rattle.clk_base.specs.Fields.{PowerBit, power_of}
use Rattle.clk_model.specs.Kinds.{is_powered}
use Rattle.clk_model.specs.Holders.{prepared}
use Rattle.clk_base.specs.Description.{kind_of}
use Rattle.clk_base.specs.declared.call.Micro.{Micro}
use Rattle.clk_base.specs.declared.event.Entry.{Entry}
use Rattle.clk_base.specs.declared.event.Errno.TheVariants as errno
use Rattle.clk_base.specs.declared.event.Event.TheVariants as event
use Rattle.clk_base.specs.declared.event.Reply.{Reply}
use Rattle.clk_base.specs.declared.event.Reply.TheVariants as reply
use Rattle.clk_base.specs.declared.event.Turn.TheVariants as turn
use Rattle.clk_model.specs.Lists.{is_in}
use Rattle.clk_model.specs.State.{State}
use Rattle.clk_model.specs.Round.{wiring}
use Rattle.clk_model.specs.Chain.{outcome}
use Rattle.clk_model.specs.Walk.{changing}
use Rattle.clk_model.specs.Notices.{is_veto, post_list}
use Rattle.clk_model.specs.Journal.{replay, slotless}
use Rattle.clk_model.specs.Fed.{Fed}
use Rattle.clk_model.specs.Laws.Flight.{IsInFlight, QuietOrInFlight, IsCalledOff, steps_of, plan, plan_rates, pre_notices}
use Rattle.clk_model.specs.Laws.PlansRead.{plans}
use Rattle.clk_model.specs.Laws.RunsFed.{IsSettled}
use Rattle.clk_model.specs.Laws.Exclusive.{holds_exclusively, rate_of_handle, lifts}
use Rattle.clk_model.specs.Laws.ChangesTold.{is_pre, is_post_of}
use Rattle.clk_model.specs.Laws.NothingLeft.{DiffersInPower, is_dropped_whole, polls}
use Rattle.clk_model.specs.Laws.Outcomes.{SameSettings}
use Rattle.clk_model.specs.Laws.EndCauses.{EndsCall}
use Rattle.clk_machine.specs.Besides.{SameEnables, enable_tier_of, is_dropped_by}

-- ---- calls that have ended

-- an entry of a journal ends the call that is in flight in front of it
pub record IsEnd (start : State) (journal : List Entry) : Type 0 where
  pub front : List Entry
  pub last : Entry
  pub rest : List Entry
  pub parts : journal ≡ front ++ last ∷ rest
  pub call : IsInFlight start front
  pub made : Micro
  pub answer : Option Bool
  pub step : last.event ≡ event.Step made answer
  pub given : Reply
  pub ends : slotless last.turn ≡ turn.Done given

-- the state in which the call began
abbrev pub before_call : {start : State} {journal : List Entry} → IsEnd start journal → State
before_call {start} is = replay start is.call.before

-- the state behind its end
abbrev pub behind_call : {start : State} {journal : List Entry} → IsEnd start journal → State
behind_call {start} is = replay start (is.front ++ is.last ∷ [])

-- the steps that it made, but for the last
abbrev pub steps_made : {start : State} {journal : List Entry} → IsEnd start journal → List Micro
steps_made is = steps_of is.call.since

-- whether it is a change of rates or of a parent that went well
abbrev pub WentWell : {start : State} {journal : List Entry} → IsEnd start journal → Type 0
WentWell is = (is.given ≡ reply.Fine) × (plans is.call.what ≡ true)

-- whether nothing is left of it: a notice of it was a veto, or it has timed out, and is a prepare, a change of parent, or a registration
-- that wasn't made
abbrev pub LeavesNothing : {start : State} {journal : List Entry} → IsEnd start journal → Type 0
LeavesNothing is = (list_any is_veto (steps_made is) ≡ true) ⊎ ((is.given ≡ reply.Refused errno.ETIMEDOUT) × (is_dropped_by (steps_made is) is.call.what ≡ true))

-- what holds of a call that has ended
pub record HoldsOfCall (start : State) (journal : List Entry) (is : IsEnd start journal) : Type 0 where
  -- its last step is of the same driver
  pub own : is.last.driver ≡ is.call.first.driver
  -- a change that went well leaves the links and the fields that were planned for it when it began
  pub outcome_ : WentWell is → SameSettings (wiring (behind_call is)) (outcome (plan (before_call is) is.call.first.driver is.call.what) (wiring (before_call is)))
  -- it asked the notifiers of the clocks whose rates it changes, each once and with its rates, and no others
  pub asked : WentWell is → filter is_pre (steps_made is) ≡ pre_notices (before_call is) (plan (before_call is) is.call.first.driver is.call.what)
  -- and told each of them of the change, with the same rates
  pub told : WentWell is → (c : ℕ) → is_in c (changing (before_call is).order (wiring (before_call is)) (plan (before_call is) is.call.first.driver is.call.what)) ≡ true
      → filter (is_post_of c) (steps_made is) ≡ post_list (plan_rates (before_call is) (plan (before_call is) is.call.first.driver is.call.what)) (before_call is).notifiers c
  -- a call of which a notice is a veto changes nothing, and tells each notifier that was asked that it is called off
  pub vetoed : list_any is_veto (steps_made is) ≡ true
      → IsCalledOff (before_call is) is.call.first.driver is.call.what (steps_made is) (behind_call is) is.given
  -- each PLL that it raised is powered behind it exactly where it is prepared
  pub raised : (y : ℕ) (power : PowerBit) → list_any (polls y) (steps_made is) ≡ true → power_of (kind_of (behind_call is).defs y) ≡ Some power
      → is_powered (behind_call is).regs power ≡ prepared (behind_call is) y
  -- a prepare or a change of parent of which a PLL doesn't lock leaves all as it was but power, and what enables did meanwhile
  pub timed_out : is.given ≡ reply.Refused errno.ETIMEDOUT → is_dropped_whole is.call.what ≡ true → DiffersInPower (before_call is) (behind_call is)
  -- where nothing is left of it, the clocks are active and the gates open behind it that the enables and disables in between, by themselves,
  -- make so from the state before it
  pub beside : LeavesNothing is → SameEnables (behind_call is) (replay (before_call is) (enable_tier_of is.call.since))

-- ---- journals

-- a handle has an exclusive hold behind these first entries of a journal, where no call is in flight, and behind each of the next ones; and
-- none of these begins a call by which its driver sets that hold aside
pub record HoldsRate (start : State) (journal : List Entry) : Type 0 where
  pub front : List Entry
  pub since : List Entry
  pub rest : List Entry
  pub parts : journal ≡ front ++ since ++ rest
  pub number : ℕ
  pub quiet : (replay start front).change ≡ None
  pub holds : (n : ℕ) → holds_exclusively (replay start (front ++ take n since)) number ≡ true
  pub lifts_none : list_any (λ e. lifts number e.event) since ≡ false

-- what holds of a journal
pub record KeepsLaws (start : State) (journal : List Entry) : Type 0 where
  -- after each entry each active clock is fed
  pub fed : (n : ℕ) → Fed (replay start (take n journal))
  -- where no change is in flight nothing is held for one, the PLL of each prepared clock is powered, and each clock is fed by its link
  pub settled : (n : ℕ) → (replay start (take n journal)).change ≡ None → IsSettled (replay start (take n journal))
  -- behind each entry no call is in flight, or one that has begun in the journal, with the steps since then as its own
  pub known : (n : ℕ) → QuietOrInFlight start (take n journal)
  -- while a handle holds the rate of its clock exclusively, that rate stays
  pub exclusive : (held : HoldsRate start journal) → rate_of_handle (replay start (held.front ++ held.since)) held.number ≡ rate_of_handle (replay start held.front) held.number
  -- what each call leaves behind its end
  pub calls : (is : IsEnd start journal) → HoldsOfCall start journal is
  -- each end has its cause in the entries of its call
  pub causes : (front rest : List Entry) (last : Entry) (m : Micro) (answer : Option Bool) (r : Reply) → journal ≡ front ++ last ∷ rest
      → last.event ≡ event.Step m answer → last.turn ≡ turn.Done r → EndsCall start front last r
