-- A call that changes a rate or a parent begins as it was made ready, in each sound state that the parts of a core stand for.
use Rattle.std.proofs.Common.{◌≡◌, ℕ, ◌+◌, ◌-◌, ◌^◌, ◌<◌, ◌≤◌, ◌&&◌, ◌||◌, Bool, true, false, List, [], ◌∷◌, Option, Some, None, refl, sym, ap, subst, ◌∙◌, arith, length, map, min}
use Rattle.std.proofs.Math.Bool.{or-false}
use Rattle.std.specs.Prelude.{sum_by, slice_index, if◌then◌else◌, nat_le, Result, Ok, Err, IfOk}
use Rattle.std.proofs.lemmas.Bool.Decides.{nat_tests}
use Rattle.std.specs.List.{list_any, AllByRecursion, list_all}
use Rattle.clk_base.specs.Description.{Description}
use Rattle.clk_base.specs.declared.call.Micro.{Micro}
use Rattle.clk_base.specs.declared.call.Sleeping.{Sleeping}
use Rattle.clk_base.specs.declared.call.Sleeping.TheVariants as call
use Rattle.clk_base.specs.declared.event.Errno.{Errno}
use Rattle.clk_base.specs.declared.event.Errno.TheVariants as errno
use Rattle.clk_base.specs.declared.event.Event.{Event}
use Rattle.clk_base.specs.declared.event.Event.TheVariants as event
use Rattle.clk_base.specs.declared.event.Reply.{Reply}
use Rattle.clk_base.specs.declared.event.Reply.TheVariants as reply
use Rattle.clk_base.specs.declared.event.Turn.{Turn}
use Rattle.clk_base.specs.declared.event.Turn.TheVariants as turn
use Rattle.clk_base.specs.declared.clock.ClockId.{ClockId}
use Rattle.clk_base.specs.declared.handle.Handle.{Handle}
use Rattle.clk_model.specs.declared.row.ClockRow.{ClockRow}
use Rattle.clk_model.specs.declared.row.HandleRow.{HandleRow}
use Rattle.clk_model.specs.Begin.{begun, done, most_credits, own_handle, refused, weight_of}
use Rattle.clk_model.specs.Journal.{slotless}
use Rattle.clk_model.specs.Chain.{outcome}
use Rattle.clk_model.specs.Gates.{settled}
use Rattle.clk_model.specs.Laws.CallCauses.{with_limits}
use Rattle.clk_model.specs.Machine.{paid, next}
use Rattle.clk_model.specs.Rate.{rate}
use Rattle.clk_model.specs.Round.{wiring, rate_in}
use Rattle.clk_model.specs.Script.{is_raise, plls, planned}
use Rattle.clk_model.specs.State.{State, Change, ChainStep, NotifierRow, registered, handle_at, link_in}
use Rattle.clk_model.specs.Step.{sets_parent}
use Rattle.clk_model.specs.Walk.{rates_in, walk}
use Rattle.clk_model.proofs.EventLaws.{begin_quiet, pick-true, pick-false}
use Rattle.clk_model.proofs.StateLaws.{paid-still, paid-left, active-put_same}
use Rattle.clk_model.proofs.ShapeLaws.{settled_change}
use Rattle.clk_model.proofs.SameSettingLaws.{outcome_defs}
use Rattle.clk_flight.specs.Begun.{StartsAs}
use Rattle.clk_flight.specs.LeftOver as flights
use Rattle.clk_flight.proofs.StartLaws.{calls_start}
use Rattle.clk_tree.specs.declared.plan.Plan.{Plan}
use Rattle.clk_tree.specs.Plans.{AreThere, ClockRate}
use Rattle.counts_core.specs.Counted.{is_prepared}
use Rattle.rate_planner.specs.Walks.{at_rate}
use Rattle.rate_requests.specs.Handles.{HandleTable}
use Rattle.change_walk.specs.Given.{Script}
use Rattle.change_walk.specs.Steps.{changed_by, steps_for, told_by}
use Rattle.change_walk.specs.Weights.{step_weight}
use Rattle.change_walk.proofs.Whole.{rate_at}
use Rattle.change_walk.specs.declared.changes.Changed.{Changed}
use Rattle.core_parts.specs.Decisions as decided
use Rattle.clk_machine.specs.Readied.{Readied, Scripted}
use Rattle.clk_machine.specs.Readied as readied
use Rattle.core_parts.specs.Course.{notifiers_at, tells_all}
use Rattle.core_parts.specs.Planned.{IsPlanned, IsPlanOf}
use Rattle.clk_machine.specs.Deciding.{ArePlannedOver, Decided, GoesOn, change_by, handle_of, left_at_once, made_in}
use Rattle.clk_machine.specs.Holding.{ranged}
use Rattle.core_parts.specs.InFlight.{asks_rate, can_link, changes_rate, is_ranged, is_script}
use Rattle.core_parts.specs.Movable.{can_go_along}
use Rattle.core_parts.specs.Listed.{rows_from}
use Rattle.core_parts.specs.Tied.{AreKept}
use Rattle.clk_machine.specs.Parts.{Parts, IsOwnCall, IsWhole, own_in, steps_left, with_range}
use Rattle.clk_machine.specs.Readying.{BeginsSo, CanBeginSo, CanGoAlong, GoesOnAlong, Hinders, lacks_room, moves_badly, IsReady, IsScripted, LeadsSo, Scripts, has_room, moves_well, StartsAlong, IsStartOf, range_before, weight_along}
use Rattle.clk_machine.specs.Sound.{IsSound}
use Rattle.clk_machine.specs.Stands.{Stands, Becomes, Enters, Leads, Proceeds, most_steps, joins, nothing}
use Rattle.clk_flight.specs.Flights.{FlightState}
use Rattle.core_parts.proofs.Deciding.{less_is, not_less}
use Rattle.clk_machine.proofs.Entered.{own_stands}
use Rattle.clk_machine.proofs.Flying.{quiet_stands}
use Rattle.core_parts.proofs.Moving.{clock_within}
use Rattle.clk_machine.proofs.Ranging.{stands_ranged}
use Rattle.clk_machine.proofs.Movable.{parent_can}
use Rattle.clk_machine.proofs.Requesting.{request_can}
use Rattle.core_parts.proofs.Scripting.{links_made, script_made, tells_made, told_all, weighs_rows}
use Rattle.clk_machine.proofs.Writing.{live_in}

-- what closes when an event is paid leaves the notifiers
settled_notifiers : (s y : State) → (settled s y).notifiers ≡ y.notifiers
unfolding settled
settled_notifiers s y = refl

-- ---- the change of a call

-- the state that it is made in has other handles alone
made_is : (s : State) (what : Sleeping) (row : HandleRow) → made_in s what row ≡ record s { handles = (made_in s what row).handles }
made_is s (call.SetRange h least most) row = refl
made_is s _ row = refl

-- how a change begins of which is known what is planned for it, but for its script and the notices that a timeout may bring
record BeginsPlain (n : State) (d : ℕ) (what : Sleeping) (range : Option (ℕ × ℕ)) (plan : Plan) (k : Change) : Type 0 where
  driver_ : k.driver ≡ d
  call_ : k.call ≡ what
  range_ : k.range ≡ range
  before : k.before ≡ rates_in (wiring n)
  outcome_ : k.outcome ≡ rates_in (outcome plan.chain (wiring n))

-- so the change of a call does
begins_plain : (s : State) (d : ℕ) (what : Sleeping) (row : HandleRow) (plan : Plan) → changes_rate what ≡ true → (change_by s d what row plan).chain ≡ plan.chain
    → BeginsPlain (made_in s what row) d what (range_before what row) plan (change_by s d what row plan)
unfolding planned
begins_plain s d (call.SetRate h x) row plan e at = record { driver_ = refl; call_ = refl; range_ = refl; before = refl; outcome_ = refl }
begins_plain s d (call.SetRateExclusive h x) row plan e at = record { driver_ = refl; call_ = refl; range_ = refl; before = refl; outcome_ = refl }
begins_plain s d (call.SetRange h least most) row plan e at = record { driver_ = refl; call_ = refl; range_ = refl; before = refl; outcome_ = refl }
begins_plain s d (call.SetParent h p) row plan e at = record {
  driver_ = refl;
  call_ = refl;
  range_ = refl;
  before = refl;
  outcome_ = ap (λ (ks : List ChainStep). rates_in (outcome ks (wiring s))) at;
}
begins_plain s d _ row plan e at = absurd cc

rated_all : (rates before will : List ℕ) (clocks : List ClockRow) (f : ℕ → ℕ) (cs : List ℕ)
    → ((c : ℕ) → registered clocks c ≡ true → (slice_index rates c ≡ slice_index before c) × (f c ≡ slice_index will c)) → AreThere clocks (map (at_rate f) cs)
    → AllByRecursion (λ r. (slice_index rates r.clock ≡ slice_index before r.clock) × (r.rate ≡ slice_index will r.clock)) (map (at_rate f) cs)
rated_all rates before will clocks f [] each there = tt
rated_all rates before will clocks f (c ∷ cs) each there = (each c there.0, rated_all rates before will clocks f cs each there.1)

-- ---- what its script comes to

-- there is room if the test says so
room_is : (m : Parts) (script : Script) → has_room m script ≡ true → m.credits + m.steps + script.weight ≤ most_credits
room_is m script e = by (m.credits + m.steps + script.weight) e where
  by : (n : ℕ) → nat_le n most_credits ≡ true → n ≤ most_credits
  by n e = grind (arith, nat_tests)

-- and none if it says that there is none
no_room_is : (m : Parts) (script : Script) → has_room m script ≡ false → most_credits < m.credits + m.steps + script.weight
no_room_is m script e = by (m.credits + m.steps + script.weight) e where
  by : (n : ℕ) → nat_le n most_credits ≡ false → most_credits < n
  by n e = grind (arith, nat_tests)

-- a timeout calls off only a change of parent
lone_extra : (m : Parts) (sets : Bool) (plan : Plan) (script : Script) → IsPlanned m.tree (is_prepared m.counts) m.chains sets plan script → sets ≡ false → script.extra ≡ 0
lone_extra m sets plan script planned_ unset =
    planned_.made.extra ∙ ap (λ (b : Bool). min (if b && list_any is_raise script.steps then told_by m.chains (changed_by m.tree plan) else 0) (2 ^ 64 - 1)) (planned_.set_parent ∙ unset)

-- it weighs what its steps do, and the notices that a timeout may bring
plain_weight : (m : Parts) (sets : Bool) (plan : Plan) (script : Script) → IsPlanned m.tree (is_prepared m.counts) m.chains sets plan script → has_room m script ≡ true → m.tree.defs ≡ m.desc.defs
    → script.weight ≡ weight_along m script.steps + script.extra
plain_weight m sets plan script planned_ room same =
    uncut script.weight (sum_by (step_weight (plls m.tree.defs) m.chains) script.steps) script.extra (m.credits + m.steps) planned_.made.weight (room_is m script room)
    ∙ ap (λ (ds : Description). sum_by (step_weight (plls ds) m.chains) script.steps + script.extra) same where
      uncut : (w a b used : ℕ) → w ≡ min (a + b) (2 ^ 64 - 1) → used + w ≤ most_credits → w ≡ a + b
      uncut w a b used cut room = omega arith

-- ---- whether its moves can be made

-- what the parts say of it is so in a state that they stand for
moves_stand : (m : Parts) (s : State) (sets : Bool) (plan : Plan) → IsWhole m → Stands m s → plan.set_parent ≡ sets → can_go_along sets s.defs s.clocks plan.chain ≡ true → moves_well m plan ≡ true
moves_stand m s sets plan whole stands is can =
    ap (λ (b : Bool). can_go_along b m.desc.defs m.tree.clocks plan.chain) is
    ∙ ap (λ (ds : Description). can_go_along sets ds m.tree.clocks plan.chain) (sym stands.defs)
    ∙ ap (λ (rows : List ClockRow). can_go_along sets s.defs rows plan.chain) (sym stands.clocks)
    ∙ can

-- the chain of a change of parent
parent_steps : (s : State) (d : ℕ) (h : Handle) (p : ClockId) (row : HandleRow) (plan : Plan) → (change_by s d (call.SetParent h p) row plan).chain ≡ plan.chain
    → (rate_ : ℕ) × (plan.chain ≡ record { clock = row.clock.0; rate = rate_; parent = Some p.0 } ∷ [])
parent_steps s d h p row plan at = (_, sym at)

-- they can
moves_can : (m : Parts) (s t : State) (d number : ℕ) (what : Sleeping) (plan : Plan) (script : Script) (k : Change) → IsWhole m → Stands m s → IsSound m.window.size s → changes_rate what ≡ true
    → number ≡ handle_of what → (goes : GoesOn s d number what plan script) → next s d (event.Begin what) ≡ Some (t, turn.Going) → t.change ≡ Some k
    → k.chain ≡ plan.chain → can_go_along (sets_parent what) s.defs s.clocks plan.chain ≡ true
moves_can m s t d number what plan script k whole stands sound changes is goes comes at chain_ = by what changes is goes comes where
  there : (c p : ℕ) → link_in s.clocks c ≡ Some p → registered s.clocks p ≡ true
  there c p at' =
      ap (λ (rows : List ClockRow). registered rows p) stands.clocks ∙ whole.tied.stands.links c p (ap (λ (rows : List ClockRow). link_in rows c) (sym stands.clocks) ∙ at')

  asked : (w : Sleeping) → asks_rate w ≡ true → next s d (event.Begin w) ≡ Some (t, turn.Going) → can_go_along false s.defs s.clocks plan.chain ≡ true
  asked w asks comes' =
      ap (λ (ks : List ChainStep). can_go_along false s.defs s.clocks ks) (sym chain_)
      ∙ request_can m.window.size s t d w k sound there asks comes' at

  by : (w : Sleeping) → changes_rate w ≡ true → number ≡ handle_of w → GoesOn s d number w plan script → next s d (event.Begin w) ≡ Some (t, turn.Going)
      → can_go_along (sets_parent w) s.defs s.clocks plan.chain ≡ true
  by (call.SetRate h x) e is' goes' comes' = asked (call.SetRate h x) refl comes'
  by (call.SetRateExclusive h x) e is' goes' comes' = asked (call.SetRateExclusive h x) refl comes'
  by (call.SetRange h least most) e is' goes' comes' = asked (call.SetRange h least most) refl comes'
  by (call.SetParent h p) e is' goes' comes' =
      let steps = parent_steps s d h p goes'.row plan goes'.planned.chain in
      ap (λ (ks : List ChainStep). can_go_along true s.defs s.clocks ks) steps.1
      ∙ ap (λ (b : Bool). b && true)
      (parent_can m.window.size s t d h p goes'.row (record { clock = goes'.row.clock.0; rate = steps.0; parent = Some p.0 }) sound
      (ap (λ (n : ℕ). own_handle s d n) (sym is') ∙ goes'.own) comes' refl refl)
  by _ e is' goes' comes' = absurd cc

module _ (m : Parts) (s : State) (d : ℕ) (what : Sleeping) (plan : Plan) (script : Script) (whole : IsWhole m) (stands : Stands m s) (sound : IsSound m.window.size s) (changes : changes_rate what ≡ true)
    (left : m.spent < m.credits) (quiet : s.change ≡ None) (made_ : IsPlanned m.tree (is_prepared m.counts) m.chains (sets_parent what) plan script)
    (goes : GoesOn s d (handle_of what) what plan script) where
  abbrev n : State
  n = made_in s what goes.row

  abbrev k : Change
  k = change_by s d what goes.row plan

  of_plan : IsPlanOf n k plan script
  of_plan = goes.planned

  plain : BeginsPlain n d what (range_before what goes.row) plan k
  plain = begins_plain s d what goes.row plan changes of_plan.chain

  beside : n ≡ record s { handles = n.handles }
  beside = made_is s what goes.row

  -- the entries that it may come to
  used_is : n.credits + n.steps + weight_of n k ≡ m.credits + m.steps + script.weight
  used_is =
      let one : n.credits ≡ m.credits = ap (λ (u : State). u.credits) beside ∙ stands.credits in
      let two : n.steps ≡ m.steps = ap (λ (u : State). u.steps) beside ∙ stands.steps in
      let three = of_plan.weight in
      omega arith

  -- without room it is refused
  pub refused_full : has_room m script ≡ false → next s d (event.Begin what) ≡ paid s (refused s errno.ENOSPC)
  refused_full full =
      begin_quiet s d what quiet
      ∙ ap (paid s) (goes.begins ∙ pick-true _ _ _ (less_is most_credits (n.credits + n.steps + weight_of n k) (let same = used_is in let over = no_room_is m script full in omega arith)))

  module _ (room : has_room m script ≡ true) where
    goes_next : next s d (event.Begin what) ≡ paid s (record n { change = Some k }, turn.Going)
    goes_next =
        begin_quiet s d what quiet
        ∙ ap (paid s) (goes.begins ∙ pick-false _ _ _ (not_less (n.credits + n.steps + weight_of n k) most_credits (let same = used_is in let within_ = room_is m script room in omega arith)))

    -- the state after its beginning
    abbrev t : State
    t = record (settled s (record n { change = Some k })) { spent = s.spent + 1 }

    begins_ : next s d (event.Begin what) ≡ Some (t, turn.Going)
    begins_ = goes_next ∙ paid-left s (record n { change = Some k }) turn.Going (let one = stands.spent in let two = stands.credits in omega arith)

    pub can_move : moves_well m plan ≡ true
    can_move =
        moves_stand m s (sets_parent what) plan whole stands goes.set_parent
        (moves_can m s t d (handle_of what) what plan script k whole stands sound changes refl goes begins_ (settled_change s (record n { change = Some k })) of_plan.chain)

    within : (c : ℕ) → registered m.tree.clocks c ≡ true → c < length n.defs
    within c here = subst (λ (ds : Description). c < length ds) (sym (ap (λ (u : State). u.defs) beside ∙ stands.defs)) (clock_within m.desc m.window m.tree c whole.tied here)

    before_ : (c : ℕ) → registered m.tree.clocks c ≡ true → slice_index m.tree.rates c ≡ slice_index k.before c
    before_ c here =
        (subst (λ (o : Option (List ℕ)). AreKept m.desc.defs o m.tree.clocks m.tree.rates) stands.regs whole.tied.kept) c here
        ∙ ap (λ (ds : Description). rate ds s.regs m.tree.clocks c) (sym stands.defs)
        ∙ ap (λ (rows : List ClockRow). rate s.defs s.regs rows c) (sym stands.clocks)
        ∙ ap (λ (u : State). rate_in (wiring u) c) (sym beside)
        ∙ sym (rate_at (wiring n) c (within c here))
        ∙ ap (λ (rs : List ℕ). slice_index rs c) (sym plain.before)

    after_ : (c : ℕ) → registered m.tree.clocks c ≡ true → rate_in (outcome plan.chain (wiring n)) c ≡ slice_index k.outcome c
    after_ c here =
        sym (rate_at (outcome plan.chain (wiring n)) c (subst (λ (ds : Description). c < length ds) (sym (outcome_defs plan.chain (wiring n))) (within c here)))
        ∙ ap (λ (rs : List ℕ). slice_index rs c) (sym plain.outcome_)

    rates_all : AllByRecursion (λ r. (slice_index m.tree.rates r.clock ≡ slice_index k.before r.clock) × (r.rate ≡ slice_index k.outcome r.clock)) plan.rates
    rates_all =
        subst (λ (rs : List ClockRate). AllByRecursion (λ r. (slice_index m.tree.rates r.clock ≡ slice_index k.before r.clock) × (r.rate ≡ slice_index k.outcome r.clock)) rs) (sym of_plan.rates)
        (rated_all m.tree.rates k.before k.outcome m.tree.clocks (rate_in (outcome plan.chain (wiring n))) (walk n.order (wiring n) plan.chain) (λ c here. (before_ c here, after_ c here))
        (subst (λ (rs : List ClockRate). AreThere m.tree.clocks rs) of_plan.rates made_.there))

    pub goes_along : (scripted : Scripted) → IsScripted m plan script scripted → GoesOnAlong s d (handle_of what) what scripted
    goes_along scripted made = record {
      row = goes.row;
      own = goes.own;
      change = k;
      next_ = goes_next;
      begins = λ start is. record {
        starts =
            subst (λ (ns : List NotifierRow). StartsAs ns start k) (settled_notifiers s (record n { change = Some k }) ∙ ap (λ (u : State). u.notifiers) beside)
            (calls_start s t d what k start begins_ (settled_change s (record n { change = Some k })) (record {
              driver = plain.driver_ ∙ sym is.driver_;
              call = plain.call_ ∙ sym is.call;
              left = of_plan.steps ∙ sym made.steps ∙ sym is.script;
              range = plain.range_ ∙ sym is.range_;
              extra = of_plan.extra ∙ sym made.extra ∙ sym is.extra;
              vetoed = of_plan.vetoed ∙ sym made.vetoed ∙ sym is.vetoed;
            }));
        chain = of_plan.chain ∙ sym made.chain;
        rates = subst (λ (ns : List Changed). AllByRecursion (λ x. (x.before ≡ slice_index k.before x.clock.0) × (x.after ≡ slice_index k.outcome x.clock.0)) ns) (sym made.notified)
            (told_all (notifiers_at m.chains) m.tree.rates k.before k.outcome plan.rates rates_all);
      };
    }

-- ---- made ready

-- a plan and its script make the call ready for which they were decided in a state
pub ready_at : (m : Parts) (s : State) (d : ℕ) (what : Sleeping) (plan : Plan) (script : Script) (made : Readied) → IsWhole m → Stands m s → IsSound m.window.size s → changes_rate what ≡ true
    → m.spent < m.credits → s.change ≡ None → ArePlannedOver m what (decided.Change plan script) → GoesOn s d (handle_of what) what plan script → Scripts m plan script made
    → BeginsSo s d (handle_of what) what made
ready_at m s d what plan script (readied.Refused e) whole stands sound changes left quiet planned_ goes hinders = by e hinders where
  by : (e : Errno) → Hinders m plan script e → next s d (event.Begin what) ≡ paid s (refused s e)
  by _ (lacks_room full) = refused_full m s d what plan script whole stands sound changes left quiet planned_ goes full
  by _ (moves_badly e room stuck) =
      let no : true ≡ false = sym (can_move m s d what plan script whole stands sound changes left quiet planned_ goes room) ∙ stuck in absurd cc
ready_at m s d what plan script readied.AtOnce whole stands sound changes left quiet planned_ goes never = absurd never
ready_at m s d what plan script (readied.Change scripted) whole stands sound changes left quiet planned_ goes made =
    goes_along m s d what plan script whole stands sound changes left quiet planned_ goes made.room scripted made

-- so they do in each state
pub ready_scripted : (m : Parts) (d : ℕ) (what : Sleeping) (plan : Plan) (script : Script) (made : Readied) → IsWhole m → m.flight.going ≡ false → changes_rate what ≡ true
    → m.spent < m.credits → ArePlannedOver m what (decided.Change plan script) → Decided m d what (decided.Change plan script) → Scripts m plan script made → IsReady m d what made
ready_scripted m d what plan script made whole quiet changes left planned_ goes scripts = λ s stands sound.
    ready_at m s d what plan script made whole stands sound changes left (quiet_stands m s stands quiet) planned_ (goes s stands sound) scripts

-- what was decided without a plan is ready
pub ready_refused : (m : Parts) (d : ℕ) (what : Sleeping) (e : Errno) → m.flight.going ≡ false → Decided m d what (decided.Refused e) → IsReady m d what (readied.Refused e)
ready_refused m d what e quiet decides = λ s stands sound. begin_quiet s d what (quiet_stands m s stands quiet) ∙ ap (paid s) (decides s stands sound).1

pub can_scripted : (m : Parts) (d : ℕ) (what : Sleeping) (plan : Plan) (script : Script) (made : Readied) → IsWhole m → changes_rate what ≡ true → ArePlannedOver m what (decided.Change plan script)
    → IsOwnCall m.table.handles d what → Scripts m plan script made → CanBeginSo m d what made
can_scripted m d what plan script (readied.Refused e) whole changes planned_ own scripts = tt
can_scripted m d what plan script readied.AtOnce whole changes planned_ own never = absurd never
can_scripted m d what plan script (readied.Change scripted) whole changes planned_ own made = record {
  own = own;
  script = ap (λ (ms : List Micro). is_script what (registered m.tree.clocks) ms) steps ∙ script_made m.tree (is_prepared m.counts) m.chains plan (changed_by m.tree plan) can planned_.there what changes (λ c p at. (whole.tied.stands.linked c p at, whole.tied.stands.links c p at));
  tells =
      ap (λ (ms : List Micro). tells_all (notifiers_at m.chains) ms scripted.course.notified) steps
      ∙ ap (λ (ns : List Changed). tells_all (notifiers_at m.chains) (steps_for m.tree (is_prepared m.counts) m.chains plan (changed_by m.tree plan)) ns) made.notified
      ∙ tells_made m.tree (is_prepared m.counts) m.chains plan (changed_by m.tree plan) can planned_.there (notifiers_at m.chains) m.tree.rates;
  links =
      ap (λ (ds : Description). list_all (can_link ds m.tree.clocks) scripted.steps) (sym whole.tied.defs) ∙ ap (λ (ms : List Micro). list_all (can_link m.tree.defs m.tree.clocks) ms) steps
      ∙ links_made m.tree (is_prepared m.counts) m.chains plan (changed_by m.tree plan) can planned_.there;
  lone = λ unset. made.extra ∙ lone_extra m (sets_parent what) plan script planned_ unset;
  weight = made.weight ∙ plain_weight m (sets_parent what) plan script planned_ made.room whole.tied.defs ∙ ap (λ (ms : List Micro). weight_along m ms + script.extra) (sym made.steps) ∙ ap (λ (x : ℕ). weight_along m scripted.steps + x) (sym made.extra);
  room = let same = made.weight in let room = room_is m script made.room in omega arith;
} where
  can : can_go_along plan.set_parent m.tree.defs m.tree.clocks plan.chain ≡ true
  can = ap (λ (ds : Description). can_go_along plan.set_parent ds m.tree.clocks plan.chain) whole.tied.defs ∙ made.moves

  steps : scripted.steps ≡ steps_for m.tree (is_prepared m.counts) m.chains plan (changed_by m.tree plan)
  steps = made.steps ∙ planned_.made.steps

-- ---- going on

-- a handle of a driver has one row
pub same_row : (s : State) (d n : ℕ) (a b : HandleRow) → own_handle s d n ≡ Some a → own_handle s d n ≡ Some b → a ≡ b
same_row s d n a b one two = inside (sym one ∙ two) where
  inside : {x y : HandleRow} → Some x ≡ Some y → x ≡ y
  inside e = cc

-- a change of rate or parent registers no clock, and may come to as many steps as there is room for
no_more_rows : (what : Sleeping) (c : ℕ) → changes_rate what ≡ true → joins (event.Begin what) turn.Going c ≡ false
no_more_rows (call.Probe k) c e = absurd cc
no_more_rows _ c e = refl

most_room : (defs : Description) (what : Sleeping) → changes_rate what ≡ true → most_steps defs (event.Begin what) ≡ most_credits
most_room defs (call.SetRate h x) e = refl
most_room defs (call.SetRateExclusive h x) e = refl
most_room defs (call.SetRange h least most) e = refl
most_room defs (call.SetParent h p) e = refl
most_room defs _ e = absurd cc

unranged_range : (what : Sleeping) (row : HandleRow) → is_ranged what ≡ false → range_before what row ≡ None
unranged_range (call.SetRange h least most) row e = absurd cc
unranged_range _ row e = refl

unranged_made : (s : State) (what : Sleeping) (row : HandleRow) → is_ranged what ≡ false → made_in s what row ≡ s
unranged_made s (call.SetRange h least most) row e = absurd cc
unranged_made s _ row e = refl

-- what is left to come of a change that goes on so
pub along_left : (old new : Parts) (d : ℕ) (what : Sleeping) (scripted : Scripted) (range : Option (ℕ × ℕ)) → CanGoAlong old d what scripted
    → StartsAlong old d what range scripted new → steps_left new ≡ scripted.weight
along_left old new d what scripted range can along =
    along.starts.left
    ∙ ap (λ (ms : List Micro). sum_by (flights.step_weight (rows_from 0 old.chains) (plls old.desc.defs)) ms + along.start.extra) along.is.script
    ∙ ap (λ (n : ℕ). sum_by (flights.step_weight (rows_from 0 old.chains) (plls old.desc.defs)) scripted.steps + n) along.is.extra
    ∙ ap (λ (n : ℕ). n + scripted.extra) (weighs_rows old.chains (plls old.desc.defs) scripted.steps) ∙ sym can.weight

pub room_to_start : (old : Parts) (d : ℕ) (what : Sleeping) (scripted : Scripted) (steps : List Micro) (extra : ℕ) → CanGoAlong old d what scripted → steps ≡ scripted.steps → extra ≡ scripted.extra
    → old.credits + old.steps + sum_by (flights.step_weight (rows_from 0 old.chains) (plls old.desc.defs)) steps + extra ≤ most_credits
room_to_start old d what scripted steps extra can same more =
    let weighs = ap (λ (ms : List Micro). sum_by (flights.step_weight (rows_from 0 old.chains) (plls old.desc.defs)) ms) same ∙ weighs_rows old.chains (plls old.desc.defs) scripted.steps in
    let weight_ = can.weight in
    let room = can.room in
    omega arith

-- one that sets no range takes the parts on
pub proceeds_along : (old new : Parts) (d : ℕ) (what : Sleeping) (scripted : Scripted) → changes_rate what ≡ true → CanGoAlong old d what scripted
    → StartsAlong old d what None scripted new → Proceeds old d (event.Begin what) turn.Going new
proceeds_along old new d what scripted changes can along = record {
  remains = along.starts.remains;
  pays = along.starts.spent;
  rows = λ c. along.starts.rows c ∙ sym (or-false (registered old.tree.clocks c)) ∙ ap (λ (b : Bool). registered old.tree.clocks c || b) (sym (no_more_rows what c changes));
  going = along.starts.going;
  driver_ = λ still. along.starts.driver_ ∙ along.is.driver_;
  fewer = λ free. absurd cc;
  begun = λ paid goes. let left_ = along_left old new d what scripted None can along in let most = most_room old.desc.defs what changes in let room = can.room in omega arith;
  no_more = λ paid done. absurd cc;
  locks = λ still. along.starts.locks;
  beside = λ tier. absurd cc;
}

pub leads_along : (old new : Parts) (d : ℕ) (what : Sleeping) (scripted : Scripted) → old.spent < old.credits → is_ranged what ≡ false
    → StartsAlong old d what None scripted new → LeadsSo old d what (readied.Change scripted) turn.Going new
leads_along old new d what scripted left unranged along = λ s stands sound goes.
    let spends : s.spent < s.credits = let one = stands.spent in let two = stands.credits in omega arith in
    record {
      to = record s { change = Some goes.change; spent = s.spent + 1 };
      next_ =
          goes.next_ ∙ ap (λ (u : State). paid s (record u { change = Some goes.change }, turn.Going)) (unranged_made s what goes.row unranged)
          ∙ paid-still s (record s { change = Some goes.change }) turn.Going spends (λ c. refl);
      stands = along.starts.stands s goes.change stands
          (goes.begins along.start (subst (λ (range : Option (ℕ × ℕ)). IsStartOf d what range scripted along.start) (sym (unranged_range what goes.row unranged)) along.is));
    }

-- and so does one that gives a handle another range
pub proceeds_within : (old between new : Parts) (d : ℕ) (h : Handle) (least most : ℕ) (row : HandleRow) (scripted : Scripted) → CanGoAlong old d (call.SetRange h least most) scripted
    → StartsAlong old d (call.SetRange h least most) (Some (row.min, row.max)) scripted between → new ≡ with_range between h.number least most
    → Proceeds old d (event.Begin (call.SetRange h least most)) turn.Going new
proceeds_within old between new d h least most row scripted can along is = subst (λ (m : Parts). Proceeds old d (event.Begin (call.SetRange h least most)) turn.Going m) (sym is) (record {
  remains = record {
    desc = along.starts.remains.desc;
    told = along.starts.remains.told;
    size = along.starts.remains.size;
    behind = along.starts.remains.behind;
    credits = along.starts.remains.credits;
    ignore_unused = along.starts.remains.ignore_unused;
  };
  pays = along.starts.spent;
  rows = λ c. along.starts.rows c ∙ sym (or-false (registered old.tree.clocks c));
  going = along.starts.going;
  driver_ = λ still. along.starts.driver_ ∙ along.is.driver_;
  fewer = λ free. absurd cc;
  begun = λ paid goes. let left_ = along_left old between d (call.SetRange h least most) scripted (Some (row.min, row.max)) can along in let room = can.room in omega arith;
  no_more = λ paid done. absurd cc;
  locks = λ still. along.starts.locks;
  beside = λ tier. absurd cc;
})

pub leads_within : (old between new : Parts) (d : ℕ) (h : Handle) (least most : ℕ) (row : HandleRow) (scripted : Scripted) → old.spent < old.credits → own_in old.table.handles d h.number ≡ Some row
    → handle_at old.table.handles h.number ≡ Some row → StartsAlong old d (call.SetRange h least most) (Some (row.min, row.max)) scripted between → new ≡ with_range between h.number least most
    → LeadsSo old d (call.SetRange h least most) (readied.Change scripted) turn.Going new
leads_within old between new d h least most row scripted left own live along is = λ s stands sound goes.
    let what : Sleeping = call.SetRange h least most in
    let spends : s.spent < s.credits = let one = stands.spent in let two = stands.credits in omega arith in
    let same : goes.row ≡ row = same_row s d h.number goes.row row goes.own (own_stands old s d h.number (Some row) stands own) in
    subst (λ (m : Parts). Leads s d (event.Begin what) turn.Going m) (sym is) (record {
      to = record (with_limits s h.number row least most) { change = Some goes.change; spent = s.spent + 1 };
      next_ =
          goes.next_ ∙ ap (λ (r : HandleRow). paid s (record (with_limits s h.number r least most) { change = Some goes.change }, turn.Going)) same
          ∙ paid-still s (record (with_limits s h.number row least most) { change = Some goes.change }) turn.Going spends
          (λ c. active-put_same s h.number row (ranged row least most) c (live_in old s h.number row stands live) refl refl);
      stands = stands_ranged between (record s { change = Some goes.change; spent = s.spent + 1 }) h.number least most row
          (along.starts.stands s goes.change stands
          (goes.begins along.start (subst (λ (r : HandleRow). IsStartOf d what (range_before what r) scripted along.start) (sym same) along.is)))
          (ap (λ (t : HandleTable). handle_at t.handles h.number) along.starts.table ∙ live);
    })

-- ---- answers

-- a call that changes a rate or a parent and is answered registers no clock
no_rows_answered : (what : Sleeping) (r : Reply) (c : ℕ) → changes_rate what ≡ true → joins (event.Begin what) (turn.Done r) c ≡ false
no_rows_answered (call.Probe k) r c e = absurd cc
no_rows_answered _ r c e = refl

-- what an answer does to the parts
pub proceeds_answered : (old new : Parts) (d : ℕ) (what : Sleeping) (r : Reply) (does : State → State) → ((c : ℕ) → joins (event.Begin what) (turn.Done r) c ≡ false) → old.flight.going ≡ false
    → Becomes old nothing does new → Proceeds old d (event.Begin what) (turn.Done r) new
proceeds_answered old new d what r does none quiet becomes = record {
  remains = becomes.remains;
  pays = becomes.spent;
  rows = λ c. becomes.rows c ∙ ap (λ (b : Bool). registered old.tree.clocks c || b) (sym (none c));
  going = ap (λ (f : FlightState). f.going) becomes.flight ∙ quiet;
  driver_ = λ still. let no : true ≡ false = sym still ∙ ap (λ (f : FlightState). f.going) becomes.flight ∙ quiet in absurd cc;
  fewer = λ free. absurd cc;
  begun = λ pays goes. absurd cc;
  no_more = λ pays done. let same = becomes.left in omega arith;
  locks = λ still. becomes.locks;
  beside = λ tier. absurd cc;
}

pub proceeds_at_once : (old new : Parts) (d : ℕ) (what : Sleeping) (r : Reply) (does : State → State) → changes_rate what ≡ true → old.flight.going ≡ false
    → Becomes old nothing does new → Proceeds old d (event.Begin what) (turn.Done r) new
proceeds_at_once old new d what r does changes quiet becomes = proceeds_answered old new d what r does (λ c. no_rows_answered what r c changes) quiet becomes

-- if a call begins with an answer and what is done to the state, the machine comes to that
pub leads_answered : (old new : Parts) (s : State) (d : ℕ) (what : Sleeping) (r : Reply) (does : State → State) → old.spent < old.credits → old.flight.going ≡ false → Becomes old nothing does new
    → Stands old s → IsSound old.window.size s → begun s d what ≡ (does s, slotless (turn.Done r)) → Leads s d (event.Begin what) (turn.Done r) new
leads_answered old new s d what r does left quiet becomes stands sound is =
    let spends : s.spent < s.credits = let one = stands.spent in let two = stands.credits in omega arith in
    record {
      to = record (settled s (does s)) { spent = s.spent + 1 };
      next_ = begin_quiet s d what (quiet_stands old s stands quiet) ∙ ap (paid s) is ∙ paid-left s (does s) (slotless (turn.Done r)) spends;
      stands = becomes.stands s stands sound;
    }

pub leads_at_once : (old new : Parts) (d : ℕ) (what : Sleeping) (does : State → State) → old.spent < old.credits → old.flight.going ≡ false → Becomes old nothing does new
    → ((s : State) (row : HandleRow) → Stands old s → own_handle s d (handle_of what) ≡ Some row → left_at_once s what row ≡ does s) → LeadsSo old d what readied.AtOnce (turn.Done reply.Fine) new
leads_at_once old new d what does left quiet becomes leaves = λ s stands sound ends.
    leads_answered old new s d what reply.Fine does left quiet becomes stands sound (ends.begins ∙ ap (λ (u : State). done u reply.Fine) (leaves s ends.row stands ends.own))

-- what is so of what was found, by two things that are
pub ok_both : {T E : Type 0} (r : Result T E) (P Q R : T → Type 0) → ((x : T) → P x → Q x → R x) → IfOk r P → IfOk r Q → IfOk r R
ok_both (Ok x) P Q R f p q = f x p q
ok_both (Err e) P Q R f p q = tt

-- what proceeds, and leads from each sound state, takes the parts on
pub enters_by : (old new : Parts) (d : ℕ) (e : Event) (t : Turn) → Proceeds old d e t new → ((s : State) → Stands old s → IsSound old.window.size s → Leads s d e t new) → Enters old d e t new
enters_by old new d e t proceeds leads = record {
  remains = proceeds.remains;
  pays = proceeds.pays;
  going = proceeds.going;
  driver_ = proceeds.driver_;
  fewer = proceeds.fewer;
  begun = proceeds.begun;
  no_more = proceeds.no_more;
  locks = proceeds.locks;
  beside = proceeds.beside;
  rows = proceeds.rows;
  step = leads;
}

-- a call that was made ready takes them on
pub enters_readied : (old new : Parts) (d : ℕ) (what : Sleeping) (made : Readied) (t : Turn) → IsReady old d what made → Proceeds old d (event.Begin what) t new → LeadsSo old d what made t new
    → Enters old d (event.Begin what) t new
enters_readied old new d what made t ready proceeds leads = enters_by old new d (event.Begin what) t proceeds (λ s stands sound. leads s stands sound (ready s stands sound))
