-- A change of parent begins as was decided, in each sound state that the parts of a core stand for.
use Rattle.std.proofs.Common.{◌≡◌, ℕ, ◌≢◌, ◌+◌, ◌&&◌, ◌||◌, Bool, true, false, not, cond, List, [], ◌∷◌, Some, None, refl, sym, ap, ◌∙◌}
use Rattle.std.specs.Prelude.{IfSome, sum_by, is_some}
use Rattle.std.specs.List.{list_any}
use Rattle.clk_base.specs.declared.call.Micro.TheVariants as micro
use Rattle.clk_base.specs.declared.call.Sleeping.TheVariants as call
use Rattle.clk_base.specs.declared.clock.ClockId.{ClockId}
use Rattle.clk_base.specs.declared.event.Errno.{Errno}
use Rattle.clk_base.specs.declared.event.Errno.TheVariants as errno
use Rattle.clk_base.specs.declared.handle.Handle.{Handle}
use Rattle.clk_base.specs.Description.{Description, kind_of, parents_of}
use Rattle.clk_base.specs.Flags.{sets_parent_gate}
use Rattle.clk_model.specs.declared.row.ClockRow.{ClockRow}
use Rattle.clk_model.specs.declared.row.HandleRow.{HandleRow}
use Rattle.clk_model.specs.Begin.{pick, refused, starts, own_handle, weight_of, reparenting, parent_set, begun}
use Rattle.clk_model.specs.Chain.{clock_id, outcome}
use Rattle.clk_model.specs.Holders.{prepared, guarded}
use Rattle.clk_model.specs.Kinds.{mux_field}
use Rattle.clk_model.specs.Lists.{is_in, is_at}
use Rattle.clk_model.specs.Round.{wiring, rate_in}
use Rattle.clk_model.specs.Script.{Planned, planned, weight, is_raise, notices_of}
use Rattle.clk_model.specs.State.{State, Change, ChainStep, link_in, handle_at, registered}
use Rattle.clk_model.specs.Tree.{rooted}
use Rattle.clk_model.specs.Views.{lift}
use Rattle.clk_model.proofs.EventLaws.{pick-true, pick-false, with-some}
use Rattle.clk_model.proofs.Members.{both_left, both_right}
use Rattle.clk_tree.specs.declared.plan.Plan.{Plan}
use Rattle.counts_core.specs.Counted.{CountState, is_guarded, is_prepared}
use Rattle.rate_planner.specs.Kept.{wired}
use Rattle.rate_planner.specs.Walks.{parent_chain, walked_rates}
use Rattle.change_walk.specs.Given as given
use Rattle.change_walk.specs.Given.{Script, OfPlan}
use Rattle.change_walk.proofs.Leading.{parent_fits}
use Rattle.core_parts.specs.Decisions as decided
use Rattle.core_parts.specs.Planned.{IsPlanOf, IsScriptOf, IsGiven}
use Rattle.core_parts.specs.Free.{is_sole}
use Rattle.clk_machine.specs.Deciding.{Decides}
use Rattle.clk_machine.specs.Parts.{Parts, own_in, IsWhole}
use Rattle.core_parts.specs.Reparenting.{is_bound, is_candidate, first_cause, parent_refusal}
use Rattle.clk_machine.specs.Sound.{IsSound}
use Rattle.clk_machine.specs.Stands.{Stands}
use Rattle.clk_machine.proofs.Decided.{decides_unknown, given_itself, its_notifiers, lifts_with}
use Rattle.core_parts.proofs.Deciding.{guarded_lifted, prepared_told, rates_told, script_told, told_here}
use Rattle.clk_machine.proofs.Entered.{own_stands}
use Rattle.clk_machine.proofs.Writing.{live_in}

-- ---- in states

pub parent_unknown : (s : State) (d : ℕ) (h : Handle) (p : ClockId) → own_handle s d h.number ≡ None → Decides s d h.number (call.SetParent h p) (decided.Refused errno.ENOENT)
unfolding begun
parent_unknown s d h p none =
    decides_unknown s d h.number (call.SetParent h p) (λ row. parent_set s (lift s h.number) d (call.SetParent h p) row.clock.0 p.0) none refl

parent_begins : (s : State) (d : ℕ) (h : Handle) (p : ClockId) (row : HandleRow) → own_handle s d h.number ≡ Some row
    → begun s d (call.SetParent h p) ≡ parent_set s (lift s h.number) d (call.SetParent h p) row.clock.0 p.0
unfolding begun
parent_begins s d h p row own = with-some s d h.number (λ row. parent_set s (lift s h.number) d (call.SetParent h p) row.clock.0 p.0) row own

-- nothing is to do for the parent that the clock has
pub parent_linked : (s : State) (d : ℕ) (h : Handle) (p : ClockId) (row : HandleRow) → own_handle s d h.number ≡ Some row → is_at p.0 (link_in s.clocks row.clock.0) ≡ true
    → Decides s d h.number (call.SetParent h p) decided.AtOnce
parent_linked s d h p row own linked = record {
  row = row;
  own = own;
  begins = parent_begins s d h p row own ∙ pick-true (is_at p.0 (link_in s.clocks row.clock.0)) _ _ linked;
}

-- whether a clock is busy in a state
abbrev is_busy : State → State → ℕ → Bool
is_busy s lifted c = (sets_parent_gate s.defs c && prepared s c) || guarded lifted c

same_errno : (a b : Errno) → Some a ≡ Some b → a ≡ b
same_errno a b e = cc

refused_first : (s : State) (k : Change) (bound busy candidate : Bool) (e : Errno) → first_cause bound busy candidate ≡ Some e
    → pick bound (λ t. refused s errno.EPERM) (λ t. pick busy (λ t. refused s errno.EBUSY) (λ t. pick candidate (λ t. starts s s k) (λ t. refused s errno.EINVAL))) ≡ refused s e
unfolding pick
refused_first s k true busy candidate e is = ap (refused s) (same_errno errno.EPERM e is)
refused_first s k false true candidate e is = ap (refused s) (same_errno errno.EBUSY e is)
refused_first s k false false true e is = absurd cc
refused_first s k false false false e is = ap (refused s) (same_errno errno.EINVAL e is)

-- none of these causes is want of room
no_room_first : (bound busy candidate : Bool) (e : Errno) → first_cause bound busy candidate ≡ Some e → e ≢ errno.ENOSPC
no_room_first true busy candidate e is = λ full. absurd cc
no_room_first false true candidate e is = λ full. absurd cc
no_room_first false false true e is = absurd cc
no_room_first false false false e is = λ full. absurd cc

starts_first : (s : State) (k : Change) (bound busy candidate : Bool) → first_cause bound busy candidate ≡ None
    → (pick bound (λ t. refused s errno.EPERM) (λ t. pick busy (λ t. refused s errno.EBUSY) (λ t. pick candidate (λ t. starts s s k) (λ t. refused s errno.EINVAL))) ≡ starts s s k) × (candidate ≡ true)
unfolding pick
starts_first s k true busy candidate is = absurd cc
starts_first s k false true candidate is = absurd cc
starts_first s k false false true is = (refl, refl)
starts_first s k false false false is = absurd cc

-- a change of parent that has a cause against it is refused
pub parent_refused : (s : State) (d : ℕ) (h : Handle) (p : ClockId) (row : HandleRow) (e : Errno) → own_handle s d h.number ≡ Some row
    → is_at p.0 (link_in s.clocks row.clock.0) ≡ false
    → first_cause (is_bound s.defs row.clock.0) (is_busy s (lift s h.number) row.clock.0) (is_candidate s.defs s.clocks row.clock.0 p.0) ≡ Some e
    → Decides s d h.number (call.SetParent h p) (decided.Refused e)
parent_refused s d h p row e own other cause = (
  no_room_first (is_bound s.defs row.clock.0) (is_busy s (lift s h.number) row.clock.0) (is_candidate s.defs s.clocks row.clock.0 p.0) e cause,
  parent_begins s d h p row own
      ∙ pick-false (is_at p.0 (link_in s.clocks row.clock.0)) _ _ other
      ∙ refused_first s (reparenting s d (call.SetParent h p) row.clock.0 p.0) (is_bound s.defs row.clock.0) (is_busy s (lift s h.number) row.clock.0) (is_candidate s.defs s.clocks row.clock.0 p.0) e cause,
)

-- else it begins with its plan, where there is room
parent_starts : (s : State) (d : ℕ) (h : Handle) (p : ClockId) (row : HandleRow) → own_handle s d h.number ≡ Some row → is_at p.0 (link_in s.clocks row.clock.0) ≡ false
    → first_cause (is_bound s.defs row.clock.0) (is_busy s (lift s h.number) row.clock.0) (is_candidate s.defs s.clocks row.clock.0 p.0) ≡ None
    → begun s d (call.SetParent h p) ≡ starts s s (reparenting s d (call.SetParent h p) row.clock.0 p.0)
parent_starts s d h p row own other cause =
    parent_begins s d h p row own
    ∙ pick-false (is_at p.0 (link_in s.clocks row.clock.0)) _ _ other
    ∙ (starts_first s (reparenting s d (call.SetParent h p) row.clock.0 p.0) (is_bound s.defs row.clock.0) (is_busy s (lift s h.number) row.clock.0) (is_candidate s.defs s.clocks row.clock.0 p.0) cause).0

-- ---- its plan

module _ (s : State) (d c p : ℕ) (h : Handle) (q : ClockId) (plan : Plan) (at : plan.chain ≡ parent_chain (wiring s) c p) (moves_ : plan.set_parent ≡ true) where
  abbrev made : Change
  made = reparenting s d (call.SetParent h q) c p

  planned_is : given.planned_by s plan ≡ planned s (parent_chain (wiring s) c p) (micro.Settle (clock_id c) ∷ [])
  planned_is =
      ap (λ (b : Bool). planned s plan.chain (given.settles b plan.chain)) moves_
      ∙ ap (λ (ks : List ChainStep). planned s ks (given.settles true ks)) at

  extra_is : given.extra_of s plan ≡ made.extra
  extra_is =
      ap (λ (b : Bool). cond (b && list_any is_raise (given.planned_by s plan).steps) (notices_of s (given.planned_by s plan).changing) 0) moves_
      ∙ ap (λ (x : Planned). cond (list_any is_raise x.steps) (notices_of s x.changing) 0) planned_is

  pub parent_weighs : given.weight_of s plan ≡ weight_of s made
  parent_weighs = ap (λ (x : Planned). sum_by (weight s) x.steps + given.extra_of s plan) planned_is ∙ ap (λ (n : ℕ). sum_by (weight s) made.left + n) extra_is

  pub parent_planned : (script : Script) → plan.rates ≡ walked_rates s.order (wiring s) plan.chain → IsScriptOf s plan script → IsPlanOf s made plan script
  parent_planned script rates script_ = record {
    chain = sym at;
    rates = rates;
    steps = sym (ap (λ (x : Planned). x.steps) planned_is) ∙ sym script_.steps;
    vetoed = sym (ap (λ (x : Planned). x.vetoed) planned_is) ∙ sym script_.vetoed;
    extra = sym extra_is ∙ sym script_.extra;
    weight = script_.weight ∙ parent_weighs;
  }

-- a change of parent that nothing is against goes on, if there is room
pub parent_goes : (s : State) (d : ℕ) (h : Handle) (p : ClockId) (row : HandleRow) (plan : Plan) (script : Script) → own_handle s d h.number ≡ Some row
    → is_at p.0 (link_in s.clocks row.clock.0) ≡ false
    → first_cause (is_bound s.defs row.clock.0) (is_busy s (lift s h.number) row.clock.0) (is_candidate s.defs s.clocks row.clock.0 p.0) ≡ None
    → plan.chain ≡ parent_chain (wiring s) row.clock.0 p.0 → plan.set_parent ≡ true → plan.rates ≡ walked_rates s.order (wiring s) plan.chain → IsScriptOf s plan script
    → Decides s d h.number (call.SetParent h p) (decided.Change plan script)
parent_goes s d h p row plan script own other cause at moves_ rates script_ = record {
  row = row;
  own = own;
  begins = parent_starts s d h p row own other cause;
  along = ap (λ (ks : List ChainStep). Some ks) (sym at);
  planned = parent_planned s d row.clock.0 p.0 h p plan at moves_ script rates script_;
  set_parent = moves_;
}

-- ---- in the parts

-- why a change of parent is refused
pub cause_told : (m : Parts) (s : State) (n p : ℕ) (row : HandleRow) → IsWhole m → Stands m s → IsSound m.window.size s → handle_at m.table.handles n ≡ Some row
    → parent_refusal m.desc.defs m.tree.clocks m.counts row p
    ≡ first_cause (is_bound s.defs row.clock.0) (is_busy s (lift s n) row.clock.0) (is_candidate s.defs s.clocks row.clock.0 p)
cause_told m s n p row whole stands sound live =
    ap (λ (ds : Description). parent_refusal ds m.tree.clocks m.counts row p) (sym stands.defs)
    ∙ ap (λ (rows : List ClockRow). parent_refusal s.defs rows m.counts row p) (sym stands.clocks)
    ∙ ap (λ (b : Bool). first_cause (is_bound s.defs row.clock.0) ((sets_parent_gate s.defs row.clock.0 && b) || (is_guarded m.counts row.clock.0 && not (is_sole row m.counts))) (is_candidate s.defs s.clocks row.clock.0 p))
    (prepared_told given_ whole.tied whole.counted.keeps row.clock.0)
    ∙ ap (λ (b : Bool). first_cause (is_bound s.defs row.clock.0) ((sets_parent_gate s.defs row.clock.0 && prepared s row.clock.0) || b) (is_candidate s.defs s.clocks row.clock.0 p))
    (guarded_lifted given_ whole.tied whole.counted.keeps n row (lifts_with m s s.handles n row whole stands sound (live_in m s n row stands live))) where
      given_ : IsGiven m.desc m.window m.tree m.table.handles m.counts s
      given_ = given_itself m s whole stands

pub link_told : (m : Parts) (s : State) (c p : ℕ) (t : Bool) → Stands m s → t ≡ is_at p (link_in m.tree.clocks c) → is_at p (link_in s.clocks c) ≡ t
link_told m s c p t stands is = ap (λ (rows : List ClockRow). is_at p (link_in rows c)) stands.clocks ∙ sym is

-- the parent of one that nothing is against is a candidate
pub none_against : (defs : Description) (clocks : List ClockRow) (k : CountState) (row : HandleRow) (p : ℕ) → parent_refusal defs clocks k row p ≡ None
    → (is_in p (parents_of defs row.clock.0) ≡ true) × (registered clocks p ≡ true)
none_against defs clocks k row p none =
    let c = row.clock.0 in
    let candidate = by (is_bound defs c) ((sets_parent_gate defs c && is_prepared k c) || (is_guarded k c && not (is_sole row k))) (is_candidate defs clocks c p) none in
    let first = both_left (is_some (mux_field (kind_of defs c)) && is_in p (parents_of defs c)) (rooted defs clocks p) candidate in (
      both_right (is_some (mux_field (kind_of defs c))) (is_in p (parents_of defs c)) first,
      both_left (registered clocks p) _ (both_right (is_some (mux_field (kind_of defs c)) && is_in p (parents_of defs c)) (rooted defs clocks p) candidate),
    ) where
      by : (bound busy candidate : Bool) → first_cause bound busy candidate ≡ None → candidate ≡ true
      by true busy candidate is = absurd cc
      by false true candidate is = absurd cc
      by false false true is = refl
      by false false false is = absurd cc

-- so a change of parent goes on as was decided over the parts
pub decides_parent : (m : Parts) (s : State) (d : ℕ) (h : Handle) (p : ClockId) (row : HandleRow) (plan : Plan) (script : Script) → IsWhole m
    → own_in m.table.handles d h.number ≡ Some row → handle_at m.table.handles h.number ≡ Some row → false ≡ is_at p.0 (link_in m.tree.clocks row.clock.0)
    → parent_refusal m.desc.defs m.tree.clocks m.counts row p.0 ≡ None
    → IfSome m.window.words (λ regs. plan.chain ≡ parent_chain (wired m.desc.defs regs m.tree) row.clock.0 p.0)
    → IfSome m.window.words (λ regs. plan.rates ≡ walked_rates m.tree.order (wired m.desc.defs regs m.tree) plan.chain) → plan.set_parent ≡ true
    → OfPlan m.tree (is_prepared m.counts) m.chains plan (λ t. IsScriptOf t plan script)
    → Stands m s → IsSound m.window.size s → Decides s d h.number (call.SetParent h p) (decided.Change plan script)
decides_parent m s d h p row plan script whole own live other cause chain_ rates moves_ scripts stands sound =
    let given_ : IsGiven m.desc m.window m.tree m.table.handles m.counts s = given_itself m s whole stands in
    let its = its_notifiers m s s.handles stands in
    let at : plan.chain ≡ parent_chain (wiring s) row.clock.0 p.0 = told_here given_.over whole.tied (λ w. plan.chain ≡ parent_chain w row.clock.0 p.0) chain_ in
    let walked = rates_told given_.over whole.tied plan.chain plan.rates rates in
    let bare : List ChainStep = record { clock = row.clock.0; rate = 0; parent = Some p.0 } ∷ [] in
    let possible : is_in p.0 (parents_of s.defs row.clock.0) ≡ true =
    ap (λ (ds : Description). is_in p.0 (parents_of ds row.clock.0)) stands.defs ∙ (none_against m.desc.defs m.tree.clocks m.counts row p.0 cause).0 in
    let plans = parent_fits s row.clock.0 p.0 (rate_in (outcome bare (wiring s)) row.clock.0) plan possible at walked in
    parent_goes s d h p row plan script (own_stands m s d h.number (Some row) stands own) (link_told m s row.clock.0 p.0 false stands other)
    (sym (cause_told m s h.number p.0 row whole stands sound live) ∙ cause) at moves_ walked
    (scripts s (script_told given_.over whole.tied m.chains (is_prepared m.counts) its (prepared_told given_ whole.tied whole.counted.keeps)) plans)
