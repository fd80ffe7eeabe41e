-- A change in flight: the state before its beginning, the steps made since then, and what is left of its script.
use Rattle.std.specs.Prelude.{◌≡◌, ℕ, List, [], ◌∷◌, ◌++◌, Bool, true, false, Option, Some, None, IfSome, slice_get, flat_map, map, ◌<◌, ◌⊎◌}
use Rattle.std.specs.List.{list_any}
use Rattle.std.specs.Option.{option_map_or}
use Rattle.clk_base.specs.declared.call.Sleeping.{Sleeping}
use Rattle.clk_base.specs.declared.call.Sleeping.TheVariants as call
use Rattle.clk_base.specs.declared.call.Micro.{Micro}
use Rattle.clk_base.specs.declared.event.Event.{Event}
use Rattle.clk_base.specs.declared.event.Event.TheVariants as event
use Rattle.clk_base.specs.declared.call.Micro.TheVariants as micro
use Rattle.clk_base.specs.declared.call.Notice.TheVariants as notice
use Rattle.clk_base.specs.declared.clock.ClockId.{ClockId}
use Rattle.clk_base.specs.declared.event.Entry.{Entry}
use Rattle.clk_base.specs.declared.event.Errno.TheVariants as errno
use Rattle.clk_base.specs.declared.event.Reply.{Reply}
use Rattle.clk_base.specs.declared.event.Reply.TheVariants as reply
use Rattle.clk_base.specs.declared.event.Turn.{Turn}
use Rattle.clk_base.specs.declared.event.Turn.TheVariants as turn
use Rattle.clk_model.specs.State.{State, Change, ChainStep}
use Rattle.clk_model.specs.Round.{wiring}
use Rattle.clk_model.specs.Chain.{clock_id, outcome}
use Rattle.clk_model.specs.Walk.{changing, rates_in}
use Rattle.clk_model.specs.Notices.{Rates, pre_list, abort_list}
use Rattle.clk_model.specs.Begin.{begun}
use Rattle.clk_model.specs.Step.{is_end, is_visit, is_close, is_register, is_settle, behind_lets, first_alone}
use Rattle.clk_model.specs.Machine.{next}
use Rattle.clk_model.specs.Journal.{replay}
use Rattle.clk_model.specs.Prep.{prep}
use Rattle.clk_model.specs.Tier.{is_enable_tier}

-- driver d has begun a call in state q, which goes on; these steps of it were made since, and that led to state s. Events of the
-- enable tier, of any driver, may stand between
pub data Flight (q : State) (d : ℕ) (what : Sleeping) : State → List Micro → Type 0 where
  begins : {s : State} → next q d (event.Begin what) ≡ Some (s, turn.Going) → Flight q d what s []
  goes_on : {s t : State} {made : List Micro} (m : Micro) (answer : Option Bool) → Flight q d what s made
      → next s d (event.Step m answer) ≡ Some (t, turn.Going) → Flight q d what t (made ++ m ∷ [])
  beside : {s t : State} {made : List Micro} {x : Turn} (other : ℕ) (e : Event) → is_enable_tier e ≡ true → Flight q d what s made
      → next s other e ≡ Some (t, x) → Flight q d what t made

-- the step that an event is, if it is one
abbrev pub step_of : Event → List Micro
step_of (event.Step m answer) = m ∷ []
step_of _ = []

-- the steps among the entries of a journal, in their order
abbrev pub steps_of : List Entry → List Micro
steps_of journal = flat_map (λ e. step_of e.event) journal

-- behind a journal a call is in flight: it began behind a front of the journal, where none was in flight, and the steps in the
-- journal since then are its own
pub record IsInFlight (start : State) (journal : List Entry) : Type 0 where
  pub before : List Entry
  pub first : Entry
  pub since : List Entry
  pub parts : journal ≡ before ++ first ∷ since
  pub quiet : (replay start before).change ≡ None
  pub what : Sleeping
  pub beginning : first.event ≡ event.Begin what
  pub flight : Flight (replay start before) first.driver what (replay start journal) (steps_of since)

-- behind a journal no call is in flight, or one that began in it
abbrev pub QuietOrInFlight : State → List Entry → Type 0
QuietOrInFlight start journal = ((replay start journal).change ≡ None) ⊎ IsInFlight start journal

-- the script of a call that a driver begins in state q
abbrev pub script : State → ℕ → Sleeping → List Micro
script q d what = option_map_or (λ k. k.left) (begun q d what).0.change []

-- ---- what a timeout leaves

-- what is left of steps from the first of a kind on: no step in front is of that kind
pub record IsFrom (test : Micro → Bool) (whole left : List Micro) : Type 0 where
  pub front : List Micro
  pub parts : whole ≡ front ++ left
  pub before : list_any test front ≡ false
  pub first : IfSome (slice_get left 0) (λ m. test m ≡ true)

-- what is left of steps behind the first of a kind
pub record IsBehind (test : Micro → Bool) (whole left : List Micro) : Type 0 where
  pub front : List Micro
  pub passed : Micro
  pub parts : whole ≡ front ++ passed ∷ left
  pub before : list_any test front ≡ false
  pub first : test passed ≡ true

-- what a timeout of a registration leaves: before the clock is registered only the end, and then what stands behind the adoption
-- that has timed out
abbrev pub IsProbeCut : Bool → List Micro → List Micro → Type 0
IsProbeCut true whole left = IsFrom is_end whole left
IsProbeCut false whole left = IsBehind is_settle whole left ⊎ ((list_any is_settle whole ≡ false) × (left ≡ []))

-- what is left from the first visit on, without the steps directly after it that let go; and what stands after the first gate
-- that is closed, and the steps that let go after it
abbrev pub IsVisitCut : List Micro → List Micro → Type 0
IsVisitCut whole left = (from : List Micro) × IsFrom is_visit whole from × (left ≡ first_alone from)

abbrev pub IsCloseCut : List Micro → List Micro → Type 0
IsCloseCut whole left = (rest : List Micro) × (IsBehind is_close whole rest ⊎ ((list_any is_close whole ≡ false) × (rest ≡ []))) × (left ≡ behind_lets rest)

-- what a timeout leaves of the steps that were left: of a prepare and of a change of parent only the end; of a change of rate the
-- next visit and the rest of the walk, so that the rest of the move or the visit's feeding is dropped; of a sweep what stands after
-- the gate that was to be closed
abbrev pub IsCut : Sleeping → List Micro → List Micro → Type 0
IsCut (call.Prepare h) whole left = IsFrom is_end whole left
IsCut (call.SetParent h p) whole left = IsFrom is_end whole left
IsCut (call.Probe c) whole left = IsProbeCut (list_any is_register whole) whole left
IsCut (call.SetRate h x) whole left = IsVisitCut whole left
IsCut (call.SetRateExclusive h x) whole left = IsVisitCut whole left
IsCut (call.SetRange h least most) whole left = IsVisitCut whole left
IsCut call.Sweep whole left = IsCloseCut whole left
IsCut _ whole left = ⊥

-- ---- what is left of a script

-- the steps that steps put in front of a script: polls, raises and lowers that come again, falls, and the notices that a change is
-- called off or made
abbrev pub may_be_put : Micro → Bool
may_be_put (micro.Notify (notice.Pre veto) c id old new) = false
may_be_put (micro.Notify notice.Abort c id old new) = true
may_be_put (micro.Notify notice.Post c id old new) = true
may_be_put (micro.Raise x) = true
may_be_put (micro.Poll x) = true
may_be_put (micro.Fall x) = true
may_be_put (micro.Lower x) = true
may_be_put _ = false

-- what is left of a script behind the steps made, and whether a poll has timed out: at first all of it; then less the step that
-- comes next, where that is made; as much, where a step that was put in front is made; and at a timeout what that leaves
pub data IsLeftOf (what : Sleeping) (whole : List Micro) : List Micro → Bool → List Micro → Type 0 where
  all_left : IsLeftOf what whole [] false whole
  own_made : {made : List Micro} {late : Bool} {left : List Micro} (m : Micro) → IsLeftOf what whole made late (m ∷ left) → IsLeftOf what whole (made ++ m ∷ []) late left
  put_made : {made : List Micro} {late : Bool} {left : List Micro} (m : Micro) → may_be_put m ≡ true → IsLeftOf what whole made late left
      → IsLeftOf what whole (made ++ m ∷ []) late left
  cut : {made : List Micro} {late : Bool} {left rest : List Micro} → IsLeftOf what whole made late left → IsCut what left rest → IsLeftOf what whole made true rest

-- ---- what stands in front

-- whether a step is no notice that a change is called off, or no notice that a rate has changed
abbrev pub is_no_abort : Micro → Bool
is_no_abort (micro.Notify notice.Abort c id old new) = false
is_no_abort _ = true

abbrev pub is_no_post : Micro → Bool
is_no_post (micro.Notify notice.Post c id old new) = false
is_no_post _ = true

-- what the steps made have put in front of the script: nothing; the poll of a PLL that may still ask, and behind it the raise that
-- comes again; that raise; the lower that comes again; behind a timeout the falls of the PLLs that are still raised, the last raised
-- first, and then the notices that the change is called off; or the notices that a rate has changed
pub data IsFront (k : Change) : Type 0 where
  nothing : k.front ≡ [] → IsFront k
  polling : (y : ClockId) → 0 < k.polls → k.front ≡ micro.Poll y ∷ [] → IsFront k
  polling_first : (y x : ClockId) → 0 < k.polls → k.front ≡ micro.Poll y ∷ micro.Raise x ∷ [] → IsFront k
  raise_again : (x : ClockId) → k.front ≡ micro.Raise x ∷ [] → IsFront k
  lower_again : (x : ClockId) → k.front ≡ micro.Lower x ∷ [] → IsFront k
  falling : (aborts : List Micro) → k.timed_out ≡ true → list_any is_no_abort aborts ≡ false
      → k.front ≡ map (λ y. micro.Fall (clock_id y)) k.raised ++ aborts → IsFront k
  telling : list_any is_no_post k.front ≡ false → IsFront k

-- some of these steps, in their order
pub data IsPart : List Micro → List Micro → Type 0 where
  nothing_left : IsPart [] []
  keeps : {whole left : List Micro} (m : Micro) → IsPart whole left → IsPart (m ∷ whole) (m ∷ left)
  drops : {whole left : List Micro} (m : Micro) → IsPart whole left → IsPart (m ∷ whole) left

-- the change of a state is this driver's call; behind the steps made what is left of its script is an end of the script over the
-- state before the call, as timing out shortened it
pub record IsUnderWay (q : State) (d : ℕ) (what : Sleeping) (s : State) (made : List Micro) : Type 0 where
  pub now : Change
  pub at : s.change ≡ Some now
  pub driver : now.driver ≡ d
  pub call : now.call ≡ what
  pub left : IsLeftOf what (script q d what) made now.timed_out now.left
  pub suffix : now.timed_out ≡ false → (front : List Micro) × (script q d what ≡ front ++ now.left)
  pub part : IsPart (script q d what) now.left
  pub front : IsFront now

-- ---- notices

-- the plan of a change of rates or of a parent that a driver begins in state q
abbrev pub plan : State → ℕ → Sleeping → List ChainStep
plan q d what = option_map_or (λ k. k.chain) (begun q d what).0.change []

-- the rates that the notices of a plan carry: the rates before it, and those that it leads to
abbrev pub plan_rates : State → List ChainStep → Rates
plan_rates q ks = record { before = rates_in (wiring q); outcome = rates_in (outcome ks (wiring q)) }

-- the notices before a plan, over the clocks whose rate it changes: at each clock up to and with its first veto
abbrev pub pre_notices : State → List ChainStep → List Micro
pre_notices q ks = pre_list (plan_rates q ks) q.notifiers (changing q.order (wiring q) ks)

-- the notices that a plan is called off, over the same clocks: at each clock over all its notifiers
abbrev pub abort_notices : State → List ChainStep → List Micro
abort_notices q ks = abort_list (plan_rates q ks) q.notifiers (changing q.order (wiring q) ks)

-- a call was called off: it leaves the prepare tier's part of the state as it was before the call, it is answered by EBUSY, and its
-- steps were the notices before the change and then those that it is called off
pub record IsCalledOff (q : State) (d : ℕ) (what : Sleeping) (made : List Micro) (t : State) (answer : Reply) : Type 0 where
  pub undone : prep t ≡ prep q
  pub refused : answer ≡ reply.Refused errno.EBUSY
  pub notices : made ≡ pre_notices q (plan q d what) ++ abort_notices q (plan q d what)
