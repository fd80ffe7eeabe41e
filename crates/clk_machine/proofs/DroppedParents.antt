-- A change of parent that times out touches neither enables nor gates.
use Rattle.std.proofs.Common.{◌≡◌, ℕ, ◌||◌, ◌&&◌, Bool, true, false, cond, List, [], ◌∷◌, ◌++◌, Option, Some, None, refl, sym, ap, subst, ◌∙◌, inl, inr, length}
use Rattle.std.specs.Prelude.{◌==◌, is_some, flat_map, slice_get, if◌then◌else◌}
use Rattle.std.specs.List.{list_any}
use Rattle.std.specs.Option.{option_map_or}
use Rattle.clk_base.specs.declared.call.Micro.{Micro}
use Rattle.clk_base.specs.declared.call.Micro.TheVariants as micro
use Rattle.clk_base.specs.declared.call.Sleeping.{Sleeping}
use Rattle.clk_base.specs.declared.call.Sleeping.TheVariants as call
use Rattle.clk_base.specs.declared.event.Errno.TheVariants as errno
use Rattle.clk_base.specs.declared.event.Event.TheVariants as event
use Rattle.clk_base.specs.declared.event.Reply.TheVariants as reply
use Rattle.clk_base.specs.declared.event.Turn.TheVariants as turn
use Rattle.clk_model.specs.Lists.{is_in, none_twice}
use Rattle.clk_model.specs.State.{State, Change, ChainStep, link_in}
use Rattle.clk_model.specs.Holders.{prepared}
use Rattle.clk_model.specs.Gates.{settled}
use Rattle.clk_model.specs.Round.{wiring, rate_in}
use Rattle.clk_model.specs.Chain.{clock_id, moves, outcome, place_of}
use Rattle.clk_model.specs.Walk.{walk, changing}
use Rattle.clk_model.specs.Notices.{is_veto}
use Rattle.clk_model.specs.Script.{unfeed, fed_step, visit_of, move, move_of, planned}
use Rattle.clk_base.specs.Flags.{runs_parent, runs_to_set}
use Rattle.clk_base.specs.declared.clock.Kind.{Kind}
use Rattle.clk_base.specs.declared.clock.Kind.TheVariants.{FixedRate, Factor, Gate, Mux, Divider, Pll}
use Rattle.clk_model.specs.Kinds.{has_setting, mux_field}
use Rattle.clk_model.proofs.FeedLaws.{NoFeeding}
use Rattle.clk_model.proofs.PlanGoLaws.{feeding_no_end}
use Rattle.clk_model.specs.Step.{todo, rest_of, taken, is_end, from_first}
use Rattle.clk_model.specs.Machine.{next}
use Rattle.clk_model.specs.Laws.Plans.{LeadsFrom}
use Rattle.clk_model.specs.Laws.Walks.{IsWalk}
use Rattle.clk_model.specs.Laws.Flight.{Flight, begins, goes_on, beside, may_be_put, IsFront, plan_rates, abort_notices, pre_notices}
use Rattle.clk_base.specs.declared.clock.ClockId.{ClockId}
use Rattle.clk_model.proofs.Members.{not_either, same_from_test}
use Rattle.clk_model.proofs.NoneLaws.{none_append, none_front, none_rest}
use Rattle.clk_model.proofs.OnceLaws.{once_head}
use Rattle.clk_model.proofs.TierLaws.{beside_change}
use Rattle.clk_model.proofs.NextLaws.{Comes, was_put, was_own, comes_of, going_no_end}
use Rattle.clk_model.proofs.FlightLaws.{first_none}
use Rattle.clk_model.proofs.StepLaws.{raises, IsAfter, step_after}
use Rattle.clk_model.proofs.BeginLaws.{walked_at, walked}
use Rattle.clk_model.proofs.WalkLaws.{walks_list}
use Rattle.clk_model.proofs.FlightLaws.{IsStep, begin_is, front_put, taken_none}
use Rattle.clk_model.proofs.VetoLaws.{of_change, ends_it, end_turn}
use Rattle.clk_model.proofs.WalkGoLaws.{from_first_past}
use Rattle.clk_model.proofs.BeginsLaws.{Starts, raising_handle, lowering_handle, planning, reparents, probing, sweeping}
use Rattle.clk_model.proofs.SafeRunLaws.{one_step_leads, IsRun}
use Rattle.clk_model.proofs.ScriptLaws.{none_visit, none_flat_in, none_move_of, none_pre, none_aborts, planned_front, planned_is, none_planned_front, is_moving, none_move}
use Rattle.clk_base.specs.Description.{kind_of}
use Rattle.clk_base.specs.declared.handle.Handle.{Handle}
use Rattle.std.proofs.lemmas.Option.{same_Some}
use Rattle.clk_model.specs.Laws.Flight.{script}
use Rattle.clk_model.specs.Laws.NothingLeft.{is_dropped_whole}
use Rattle.clk_model.proofs.FlightLaws.{course_of}
use Rattle.clk_model.proofs.EndCauseLaws.{begun_fresh}
use Rattle.clk_model.proofs.TimeoutLaws.{no_end}
use Rattle.clk_model.proofs.TimeoutStepLaws.{does_more, raises_late, late_calm, late_past, late_front, late_from, from_twice, cut_is_from}
use Rattle.clk_machine.proofs.BesideSteps.{touches}
use Rattle.clk_machine.proofs.Dropped.{flight_begins, made_none, of_script, one_none}
use Rattle.clk_machine.specs.Landing.{reply_of}

-- ---- a flight

-- a change of parent in flight: no step so far has done more than tell and power, and no raise stands behind one that does; or no poll can
-- time out any more
data Stage (made : List Micro) (k : Change) : Type 0 where
  early : list_any does_more made ≡ false → raises_late k.left ≡ false → list_any does_more (from_first is_end k.left) ≡ false → (k.timed_out ≡ true → list_any does_more k.left ≡ false) → Stage made k
  past : k.timed_out ≡ false → list_any raises k.front ≡ false → list_any raises k.left ≡ false → Stage made k

put_less : (m : Micro) → may_be_put m ≡ true → does_more m ≡ false
put_less (micro.HoldPrepare x) put = absurd cc
put_less (micro.HoldEnable x) put = absurd cc
put_less (micro.Relink c p) put = absurd cc
put_less (micro.WriteMux c place) put = absurd cc
put_less (micro.DropEnable x) put = absurd cc
put_less (micro.DropPrepare x) put = absurd cc
put_less (micro.Visit c) put = absurd cc
put_less (micro.Register c) put = absurd cc
put_less (micro.Settle c) put = absurd cc
put_less m put = refl

more_gentle : (m : Micro) → does_more m ≡ true → raises m ≡ false
more_gentle (micro.Raise x) more = absurd cc
more_gentle (micro.Poll x) more = absurd cc
more_gentle m more = refl

-- the change behind a step
stage_steps : (s t : State) (d : ℕ) (m : Micro) (answer : Option Bool) (k : Change) (made : List Micro) → IsStep s t d m answer turn.Going k
    → is_dropped_whole k.call ≡ true → IsFront k → Stage made k → (j : Change) → IsAfter m (taken k) j → Stage (made ++ m ∷ []) j
stage_steps s t d m answer k made step drops front (past on_time none_front_ none_left) j is =
    let gentle : raises m ≡ false = first_none raises m (todo k) step.first (none_append raises k.front k.left none_front_ none_left) in
    let rest = taken_none raises k.front k.left none_front_ none_left in
    elim is.left [
      | inl same ↦ past (same.1 ∙ on_time) (is.calm gentle rest.0) (ap (list_any raises) same.0 ∙ rest.1)
      | inr late ↦ let no : true ≡ false = sym late.0 ∙ gentle in absurd cc
    ]
stage_steps s t d m answer k made step drops front (early mild late only timed) j is = by_place (comes_of k.front k.left m step.first (front_put k front)) where
  going : is_end m ≡ false
  going = going_no_end s (taken k) answer m step.answered

  more : does_more m ≡ false → list_any does_more (made ++ m ∷ []) ≡ false
  more less = none_append does_more made (m ∷ []) mild (one_none does_more m less)

  -- behind a step that does no more, where so much of the script was left
  go_on : (ms : List Micro) → does_more m ≡ false → (taken k).left ≡ ms → raises_late ms ≡ false → list_any does_more (from_first is_end ms) ≡ false → (k.timed_out ≡ true → list_any does_more ms ≡ false) → Stage (made ++ m ∷ []) j
  go_on ms less left late' only' timed' = elim is.left [
    | inl same ↦
        let here : j.left ≡ ms = same.0 ∙ left in
        early (more less) (ap raises_late here ∙ late') (ap (λ (ns : List Micro). list_any does_more (from_first is_end ns)) here ∙ only')
        (λ e. ap (list_any does_more) here ∙ timed' (sym same.1 ∙ e))
    | inr cut ↦
        let here : j.left ≡ from_first is_end ms = cut.1 ∙ cut_is_from k.call (taken k).left drops ∙ ap (from_first is_end) left in
        early (more less) (ap raises_late here ∙ late_from ms late') (ap (λ (ns : List Micro). list_any does_more (from_first is_end ns)) here ∙ ap (list_any does_more) (from_twice ms) ∙ only')
        (λ e. ap (list_any does_more) here ∙ only')
  ]

  by_more : (ms : List Micro) → k.front ≡ [] → k.left ≡ m ∷ ms → (taken k).left ≡ ms → (b : Bool) → does_more m ≡ b → Stage (made ++ m ∷ []) j
  by_more ms empty left rest false less =
      go_on ms less rest (not_either (does_more m && list_any raises ms) (raises_late ms) (sym (ap raises_late left) ∙ late)).1
      (sym (ap (λ (t' : Bool). list_any does_more (if t' then m ∷ ms else from_first is_end ms)) going) ∙ sym (ap (λ (ns : List Micro). list_any does_more (from_first is_end ns)) left) ∙ only)
      (λ e. none_rest does_more m ms (sym (ap (list_any does_more) left) ∙ timed e))
  by_more ms empty left rest true more_ = elim is.left [
    | inr cut ↦ let no : true ≡ false = sym cut.0 ∙ more_gentle m more_ in absurd cc
    | inl same ↦
        past (same.1 ∙ on_time k.timed_out refl)
        (is.calm (more_gentle m more_) (ap (λ (ns : List Micro). list_any raises (rest_of ns)) empty))
        (ap (list_any raises) (same.0 ∙ rest)
        ∙ sym (ap (λ (b : Bool). b && list_any raises ms) more_) ∙ (not_either (does_more m && list_any raises ms) (raises_late ms) (sym (ap raises_late left) ∙ late)).0)
  ] where
    on_time : (b : Bool) → k.timed_out ≡ b → b ≡ false
    on_time false e = refl
    on_time true e = let no : true ≡ false = sym more_ ∙ none_front does_more m ms (sym (ap (list_any does_more) left) ∙ timed e) in absurd cc

  by_place : Comes k.front k.left m → Stage (made ++ m ∷ []) j
  by_place (was_put front_ put same) = go_on k.left (put_less m put) same late only timed
  by_place (was_own empty left) = by_more (taken k).left empty left refl (does_more m) refl

-- ---- beginnings

-- the script of a change of parent: its one raise stands in front of all that does more
late_move : (q : State) (c p : ℕ) → raises_late (move q.defs q.clocks (prepared q) c p) ≡ false
late_move q c p =
    either (prepared q c) _ _
    (late_past (micro.Raise (clock_id p) ∷ []) (micro.HoldPrepare (clock_id p) ∷ micro.HoldEnable (clock_id p) ∷ micro.HoldEnable (clock_id c)
    ∷ micro.Relink (clock_id c) (clock_id p) ∷ micro.WriteMux (clock_id c) (place_of q.defs c p) ∷ micro.DropEnable (clock_id c) ∷ option_map_or unfeed (link_in q.clocks c) []) refl (late_calm (micro.HoldPrepare (clock_id p) ∷ micro.HoldEnable (clock_id p) ∷ micro.HoldEnable (clock_id c)
    ∷ micro.Relink (clock_id c) (clock_id p) ∷ micro.WriteMux (clock_id c) (place_of q.defs c p) ∷ micro.DropEnable (clock_id c) ∷ option_map_or unfeed (link_in q.clocks c) []) (lets (link_in q.clocks c))))
    (either (runs_parent q.defs c) _ _
    (late_past (micro.Raise (clock_id c) ∷ micro.Raise (clock_id p) ∷ []) (micro.HoldPrepare (clock_id c) ∷ micro.HoldEnable (clock_id c)
    ∷ micro.HoldPrepare (clock_id p) ∷ micro.HoldEnable (clock_id p)
    ∷ micro.Relink (clock_id c) (clock_id p) ∷ micro.WriteMux (clock_id c) (place_of q.defs c p) ∷ option_map_or unfeed (link_in q.clocks c) [] ++ unfeed c) refl (late_calm (micro.HoldPrepare (clock_id c) ∷ micro.HoldEnable (clock_id c)
    ∷ micro.HoldPrepare (clock_id p) ∷ micro.HoldEnable (clock_id p)
    ∷ micro.Relink (clock_id c) (clock_id p) ∷ micro.WriteMux (clock_id c) (place_of q.defs c p) ∷ option_map_or unfeed (link_in q.clocks c) [] ++ unfeed c) (more (link_in q.clocks c)))) refl) where
      lets : (l : Option ℕ) → list_any raises (option_map_or unfeed l []) ≡ false
      lets None = refl
      lets (Some o) = refl

      more : (l : Option ℕ) → list_any raises (option_map_or unfeed l [] ++ unfeed c) ≡ false
      more None = refl
      more (Some o) = refl

      either : (t : Bool) (xs ys : List Micro) → raises_late xs ≡ false → raises_late ys ≡ false → raises_late (cond t xs ys) ≡ false
      either true xs ys e f = e
      either false xs ys e f = f

-- a chain of one step
late_own : (q : State) (k : ChainStep) (w : ℕ) → raises_late (move_of q.defs q.clocks (prepared q) (k ∷ []) w) ≡ false
late_own q k w = one ((k.clock == w) && moves q.clocks k) k.parent where
  nothing_more : (ms : List Micro) → raises_late ms ≡ false → raises_late (ms ++ []) ≡ false
  nothing_more ms late = late_front ms [] refl late

  by_parent : (o : Option ℕ) → raises_late (option_map_or (move q.defs q.clocks (prepared q) w) o []) ≡ false
  by_parent None = refl
  by_parent (Some p) = late_move q w p

  one : (t : Bool) (o : Option ℕ) → raises_late (flat_map (λ l. option_map_or (move q.defs q.clocks (prepared q) w) l.parent []) (cond t (k ∷ []) [])) ≡ false
  one false o = refl
  one true o = nothing_more (option_map_or (move q.defs q.clocks (prepared q) w) k.parent []) (by_parent k.parent)

-- nothing runs for the visit of a clock that a chain sets nothing of
visit_alone : (q : State) (k : ChainStep) (x : ℕ) → has_setting (kind_of q.defs k.clock) ≡ false → visit_of q.defs q.clocks (k ∷ []) x ≡ micro.Visit (clock_id x) ∷ []
visit_alone q k x bare = by_clock (k.clock == x) refl where
  by_clock : (t : Bool) → (k.clock == x) ≡ t → visit_of q.defs q.clocks (k ∷ []) x ≡ micro.Visit (clock_id x) ∷ []
  by_clock false e = ap (λ (t : Bool). fed_step (if (t || false) && has_setting (kind_of q.defs x) then (if runs_to_set q.defs x then Some x else if runs_parent q.defs x then link_in q.clocks x else None) else None) (micro.Visit (clock_id x))) e
  by_clock true e =
      ap (λ (t : Bool). fed_step (if (t || false) && has_setting (kind_of q.defs x) then (if runs_to_set q.defs x then Some x else if runs_parent q.defs x then link_in q.clocks x else None) else None) (micro.Visit (clock_id x))) e
      ∙ ap (λ (t : Bool). fed_step (if t then (if runs_to_set q.defs x then Some x else if runs_parent q.defs x then link_in q.clocks x else None) else None) (micro.Visit (clock_id x)))
      (subst (λ (y : ℕ). has_setting (kind_of q.defs y) ≡ false) (same_from_test k.clock x e) bare)

late_walked : (q : State) (k : ChainStep) (ws : List ℕ) → has_setting (kind_of q.defs k.clock) ≡ false → slice_get ws 0 ≡ Some k.clock → none_twice ws ≡ true → raises_late (flat_map (walked_at q (k ∷ [])) ws) ≡ false
late_walked q k [] bare at once = absurd cc
late_walked q k (w ∷ ws) bare at once =
    late_front (walked_at q (k ∷ []) w) (flat_map (walked_at q (k ∷ [])) ws)
    (none_flat_in raises (walked_at q (k ∷ [])) ws
    (λ x m. none_append raises (move_of q.defs q.clocks (prepared q) (k ∷ []) x) (visit_of q.defs q.clocks (k ∷ []) x)
    (none_move_of raises q.defs q.clocks (prepared q) (k ∷ []) x ((λ same p is. absurd (twice x m same)), tt)) (ap (list_any raises) (visit_alone q k x bare))))
    (late_front (move_of q.defs q.clocks (prepared q) (k ∷ []) w) (visit_of q.defs q.clocks (k ∷ []) w) (ap (list_any raises) (visit_alone q k w bare)) (late_own q k w)) where
      twice : (x : ℕ) → is_in x ws ≡ true → k.clock ≡ x → ⊥
      twice x m same =
          let first : w ≡ k.clock = cc in
          let no : false ≡ true = sym (once_head w ws once).0 ∙ ap (λ (v : ℕ). is_in v ws) (first ∙ same) ∙ m in
          cc

parent_stage : (q : State) (k : ChainStep) (settles : List Micro) → IsRun q → has_setting (kind_of q.defs k.clock) ≡ false → LeadsFrom (wiring q) k.clock (k ∷ []) → list_any raises settles ≡ false → list_any is_end settles ≡ false
    → (raises_late (planned q (k ∷ []) settles).steps ≡ false) × (list_any does_more (from_first is_end (planned q (k ∷ []) settles).steps) ≡ false)
parent_stage q k settles run bare leads calm none = (
  ap raises_late (planned_is q (k ∷ []) settles)
      ∙ late_front (planned_front q (k ∷ []) settles) (micro.End ∷ []) refl
      (late_past (pre_notices q (k ∷ [])) _ (none_pre does_more q (k ∷ []) (λ kind c id old new. refl)) (middle (list_any is_veto (pre_notices q (k ∷ []))))),
  ap (λ (ms : List Micro). list_any does_more (from_first is_end ms)) (planned_is q (k ∷ []) settles)
      ∙ ap (list_any does_more)
      (from_first_past is_end (planned_front q (k ∷ []) settles) (micro.End ∷ [])
      (none_planned_front is_end q (k ∷ []) settles (λ kind c id old new. refl)
      (λ c. none_move_of is_end q.defs q.clocks (prepared q) (k ∷ []) c ((λ same p is. none_move is_end q c p no_end), tt)) (λ c. none_visit is_end q.defs q.clocks (k ∷ []) c feeding_no_end refl) none)),
) where
  ws : List ℕ
  ws = walk q.order (wiring q) (k ∷ [])

  is_walk : IsWalk q.order (wiring q) (k ∷ [])
  is_walk = (walks_list (length q.regs) q.order (wiring q) k.clock (k ∷ []) run.wired run.keeps.order leads).0

  middle : (v : Bool) → raises_late (cond v (abort_notices q (k ∷ [])) (walked q (k ∷ []) ++ settles)) ≡ false
  middle true = late_calm (abort_notices q (k ∷ [])) (none_aborts raises (plan_rates q (k ∷ [])) q.notifiers (changing q.order (wiring q) (k ∷ [])) (λ kind c id old new. refl))
  middle false = late_front (walked q (k ∷ [])) settles calm (late_walked q k ws bare is_walk.first is_walk.once)

mux_bare : (kind : Kind) → is_some (mux_field kind) ≡ true → has_setting kind ≡ false
mux_bare (Mux word shift width read_only) is = refl
mux_bare (FixedRate rate) is = refl
mux_bare (Factor mult div) is = refl
mux_bare (Gate word bit set_to_disable) is = refl
mux_bare (Divider word shift width one_based power_of_two) is = absurd cc
mux_bare (Pll word shift width power_word power_bit least most m) is = absurd cc

-- the script of such a call
EarlyScript : List Micro → Type 0
EarlyScript ms = (raises_late ms ≡ false) × (list_any does_more (from_first is_end ms) ≡ false)

parent_starts : (q n : State) (d : ℕ) (h : Handle) (c : ClockId) (k : Change) → IsRun q → Starts q d (call.SetParent h c) n k → EarlyScript k.left
unfolding EarlyScript
parent_starts q n d h c k run (raising_handle g row is at) = absurd cc
parent_starts q n d h c k run (lowering_handle g row is at gives_up) = absurd cc
parent_starts q n d h c k run (planning _ number row over x ks range planned_ at is rates) = absurd cc
parent_starts q n d h c k run (reparents number row p sets at away mux m root) =
    let rate_ : ℕ = rate_in (outcome (record { clock = row.clock.0; rate = 0; parent = Some p } ∷ []) (wiring q)) row.clock.0 in
    parent_stage q (record { clock = row.clock.0; rate = rate_; parent = Some p }) (micro.Settle row.clock ∷ []) run (mux_bare (kind_of q.defs row.clock.0) mux) (one_step_leads q row.clock.0 p rate_ m) refl refl
parent_starts q n d h c k run (probing b is free) = absurd cc
parent_starts q n d h c k run (sweeping is) = absurd cc

-- ---- the whole flight

-- a change of parent in flight keeps that
record InStage (s : State) (what : Sleeping) (made : List Micro) : Type 0 where
  now : Change
  at : s.change ≡ Some now
  stage : Stage made now

stage_begins : (q s : State) (d : ℕ) (h : Handle) (c : ClockId) → IsRun q → next q d (event.Begin (call.SetParent h c)) ≡ Some (s, turn.Going) → (k : Change) → s.change ≡ Some k → Stage [] k
unfolding settled EarlyScript
stage_begins q s d h c run step k at =
    let start = begin_is q s d (call.SetParent h c) turn.Going step in
    let fresh = begun_fresh q s d (call.SetParent h c) step k at in
    let own : script q d (call.SetParent h c) ≡ k.left = ap (λ (o : Option Change). option_map_or (λ l. l.left) o []) (ap (λ (u : State). u.change) start.1 ∙ at) in
    let is : EarlyScript (script q d (call.SetParent h c)) = of_script q d (call.SetParent h c) EarlyScript start.2 (λ n l starts_. parent_starts q n d h c l run starts_) in
    early refl (sym (ap raises_late own) ∙ is.0) (sym (ap (λ (ms : List Micro). list_any does_more (from_first is_end ms)) own) ∙ is.1) (λ late. let no : true ≡ false = sym late ∙ fresh.0 in absurd cc)

in_stage : (q : State) (d : ℕ) (h : Handle) (c : ClockId) → IsRun q → {s : State} {made : List Micro} → Flight q d (call.SetParent h c) s made → InStage s (call.SetParent h c) made
unfolding settled
in_stage q d h c run {s = s} (begins step) =
    let course = course_of q d (call.SetParent h c) (begins step) in
    record { now = course.now; at = course.at; stage = stage_begins q s d h c run step course.now course.at }
in_stage q d h c run {s = t} (goes_on {s = s} {made = made} m answer flight step) =
    let before = in_stage q d h c run flight in
    let k : Change = before.now in
    let course = course_of q d (call.SetParent h c) flight in
    let same : course.now ≡ k = same_Some course.now k (sym course.at ∙ before.at) in
    let of = of_change s t d m answer turn.Going k before.at step in
    let after = step_after s (taken k) answer m of.answered in
    record {
      now = after.0;
      at = sym (ap (λ (u : State). u.change) of.state) ∙ after.1;
      stage = stage_steps s t d m answer k made of (ap (λ (l : Change). is_dropped_whole l.call) (sym same) ∙ ap is_dropped_whole course.call) (subst (λ (l : Change). IsFront l) same course.front) before.stage after.0 after.2;
    }
in_stage q d h c run {s = t} (beside {s = s} {x = x} other e tier flight step) =
    let before = in_stage q d h c run flight in
    record { now = before.now; at = beside_change s t other e x tier step ∙ before.at; stage = before.stage }

-- ---- the end

closes_gate : Micro → Bool
closes_gate (micro.Close c) = true
closes_gate _ = false

put_no_close : (m : Micro) → may_be_put m ≡ true → closes_gate m ≡ false
unfolding closes_gate
put_no_close (micro.Close c) put = absurd cc
put_no_close m put = refl

-- a step that does no more and closes no gate touches nothing
less_touches : (m : Micro) → does_more m ≡ false → closes_gate m ≡ false → touches m ≡ false
unfolding closes_gate
less_touches (micro.Notify kind c id old new) less none = refl
less_touches (micro.Raise x) less none = refl
less_touches (micro.Poll x) less none = refl
less_touches (micro.Fall x) less none = refl
less_touches (micro.Lower x) less none = refl
less_touches (micro.Unpower x) less none = refl
less_touches micro.End less none = refl
less_touches _ less none = absurd cc

all_less : (ms : List Micro) → list_any does_more ms ≡ false → list_any closes_gate ms ≡ false → list_any touches ms ≡ false
all_less [] less none = refl
all_less (m ∷ ms) less none =
    none_append touches (m ∷ []) ms (one_none touches m (less_touches m (none_front does_more m ms less) (none_front closes_gate m ms none)))
    (all_less ms (none_rest does_more m ms less) (none_rest closes_gate m ms none))

no_close : (m : Micro) → is_moving m ≡ true → closes_gate m ≡ false
unfolding closes_gate
no_close (micro.Close c) moves_ = absurd cc
no_close m moves_ = refl

no_close_fed : NoFeeding closes_gate
unfolding closes_gate
no_close_fed (micro.Close c) e = absurd cc
no_close_fed m e = refl

parent_closes : (q n : State) (d : ℕ) (h : Handle) (c : ClockId) (k : Change) → Starts q d (call.SetParent h c) n k → list_any closes_gate k.left ≡ false
unfolding closes_gate
parent_closes q n d h c k (raising_handle g row is at) = absurd cc
parent_closes q n d h c k (lowering_handle g row is at gives_up) = absurd cc
parent_closes q n d h c k (planning _ number row over x ks range planned_ at is rates) = absurd cc
parent_closes q n d h c k (reparents number row p sets at away mux m root) =
    let rate_ : ℕ = rate_in (outcome (record { clock = row.clock.0; rate = 0; parent = Some p } ∷ []) (wiring q)) row.clock.0 in
    let step : ChainStep = record { clock = row.clock.0; rate = rate_; parent = Some p } in
    ap (list_any closes_gate) (planned_is q (step ∷ []) (micro.Settle row.clock ∷ []))
    ∙ none_append closes_gate (planned_front q (step ∷ []) (micro.Settle row.clock ∷ [])) (micro.End ∷ [])
    (none_planned_front closes_gate q (step ∷ []) (micro.Settle row.clock ∷ []) (λ kind x id old new. refl)
    (λ x. none_move_of closes_gate q.defs q.clocks (prepared q) (step ∷ []) x ((λ same p is. none_move closes_gate q x p no_close), tt))
    (λ x. none_visit closes_gate q.defs q.clocks (step ∷ []) x no_close_fed refl) refl) refl
parent_closes q n d h c k (probing b is free) = absurd cc
parent_closes q n d h c k (sweeping is) = absurd cc

late_reply : (k : Change) (v b : Bool) → turn.Done (reply_of v b) ≡ turn.Done (reply.Refused errno.ETIMEDOUT) → b ≡ true
late_reply k v true f = refl
late_reply k true false f = absurd cc
late_reply k false false f = absurd cc

-- so a change of parent that has timed out has touched nothing
pub parent_mild : (q s t : State) (d : ℕ) (h : Handle) (c : ClockId) (made : List Micro) (m : Micro) (answer : Option Bool) → IsRun q → Flight q d (call.SetParent h c) s made
    → next s d (event.Step m answer) ≡ Some (t, turn.Done (reply.Refused errno.ETIMEDOUT)) → list_any touches made ≡ false
parent_mild q s t d h c made m answer run flight step = all_less made (by_stage is.stage) none where
  is : InStage s (call.SetParent h c) made
  is = in_stage q d h c run flight

  of : IsStep s t d m answer (turn.Done (reply.Refused errno.ETIMEDOUT)) is.now
  of = of_change s t d m answer (turn.Done (reply.Refused errno.ETIMEDOUT)) is.now is.at step

  end_ : m ≡ micro.End
  end_ = ends_it s (taken is.now) answer m (reply.Refused errno.ETIMEDOUT) of.answered

  late : is.now.timed_out ≡ true
  late = late_reply (taken is.now) is.now.vetoed is.now.timed_out (sym (end_turn s (taken is.now) answer m end_) ∙ of.answered)

  by_stage : Stage made is.now → list_any does_more made ≡ false
  by_stage (early mild late_ only timed) = mild
  by_stage (past on_time none_front_ none_left) = let no : true ≡ false = sym late ∙ on_time in absurd cc

  none : list_any closes_gate made ≡ false
  none =
      let course = course_of q d (call.SetParent h c) flight in
      let start = flight_begins q d (call.SetParent h c) flight in
      let goes = (begin_is q start.0 d (call.SetParent h c) turn.Going start.1).2 in
      made_none closes_gate (call.SetParent h c) (script q d (call.SetParent h c)) put_no_close (of_script q d (call.SetParent h c) (λ ms. list_any closes_gate ms ≡ false) goes (λ n k starts_. parent_closes q n d h c k starts_)) course.left
