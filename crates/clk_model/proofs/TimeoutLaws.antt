-- Laws on timeouts of prepares and changes of parents: they leave nothing changed but power bits.
use Rattle.std.proofs.Common.{◌≡◌, ℕ, ◌+◌, ◌||◌, ◌&&◌, Bool, true, false, cond, List, [], ◌∷◌, ◌++◌, Option, Some, None, refl, sym, ap, subst, ◌∙◌, inl, inr, length}
use Rattle.std.specs.Prelude.{◌==◌, is_some, flat_map, slice_get, if◌then◌else◌}
use Rattle.std.specs.List.{list_any}
use Rattle.std.specs.Option.{option_map_or}
use Rattle.clk_base.specs.declared.call.Micro.{Micro}
use Rattle.clk_base.specs.declared.call.Micro.TheVariants as micro
use Rattle.clk_base.specs.declared.call.Sleeping.{Sleeping}
use Rattle.clk_base.specs.declared.call.Sleeping.TheVariants as call
use Rattle.clk_base.specs.declared.event.Errno.TheVariants as errno
use Rattle.clk_base.specs.declared.event.Event.{Event}
use Rattle.clk_base.specs.declared.event.Event.TheVariants as event
use Rattle.clk_base.specs.declared.event.Reply.TheVariants as reply
use Rattle.clk_base.specs.declared.event.Turn.{Turn}
use Rattle.clk_base.specs.declared.event.Turn.TheVariants as turn
use Rattle.clk_base.specs.Valid.{IsValid}
use Rattle.clk_model.specs.declared.row.HandleRow.{HandleRow}
use Rattle.clk_model.specs.Lists.{is_in, none_twice}
use Rattle.clk_model.specs.State.{State, Change, ChainStep, link_in}
use Rattle.clk_model.specs.Holders.{prepared}
use Rattle.clk_model.specs.Gates.{settled}
use Rattle.clk_model.specs.Round.{wiring, rate_in}
use Rattle.clk_model.specs.Chain.{clock_id, moves, outcome, place_of}
use Rattle.clk_model.specs.Walk.{walk, changing}
use Rattle.clk_model.specs.Notices.{is_veto}
use Rattle.clk_model.specs.Script.{unfeed, fed_step, visit_of, move, move_of, planned}
use Rattle.clk_base.specs.Description.{kind_of}
use Rattle.clk_model.proofs.Members.{same_from_test}
use Rattle.clk_base.specs.Flags.{runs_parent, runs_to_set}
use Rattle.clk_base.specs.declared.clock.Kind.{Kind}
use Rattle.clk_base.specs.declared.clock.Kind.TheVariants.{FixedRate, Factor, Gate, Mux, Divider, Pll}
use Rattle.clk_model.specs.Kinds.{has_setting, mux_field}
use Rattle.clk_model.proofs.PlanGoLaws.{feeding_no_end}
use Rattle.clk_model.specs.Begin.{begun}
use Rattle.clk_model.specs.Step.{todo, rest_of, taken, is_end, from_first, ended_well, range_back, end_of, unranged, stepped}
use Rattle.clk_model.specs.Machine.{next}
use Rattle.clk_model.specs.Journal.{replay, opening}
use Rattle.clk_model.specs.Tier.{is_enable_tier}
use Rattle.clk_model.specs.Wired.{IsWired}
use Rattle.clk_model.specs.Laws.Plans.{LeadsFrom}
use Rattle.clk_model.specs.Laws.Walks.{IsWalk}
use Rattle.clk_model.specs.Laws.Flight.{Flight, begins, goes_on, beside, may_be_put, IsFront, nothing, plan_rates, abort_notices, pre_notices}
use Rattle.clk_model.specs.Laws.NothingLeft.{DiffersInPower, is_dropped_whole, TimeoutsLeaveNothing}
use Rattle.clk_model.proofs.Members.{not_either}
use Rattle.clk_model.proofs.NoneLaws.{none_append, none_front, none_rest}
use Rattle.clk_model.proofs.OnceLaws.{once_head}
use Rattle.clk_model.proofs.TierLaws.{beside_change}
use Rattle.clk_model.proofs.NextLaws.{Comes, was_put, was_own, comes_of, going_no_end}
use Rattle.clk_model.proofs.FlightLaws.{first_none}
use Rattle.clk_model.proofs.StepLaws.{raises, IsAfter, step_after}
use Rattle.clk_model.proofs.FrontLaws.{front_after}
use Rattle.clk_model.proofs.BeginLaws.{walked_at, walked}
use Rattle.clk_model.proofs.WalkLaws.{walks_list}
use Rattle.clk_model.proofs.FlightLaws.{IsStep, begin_is, front_put, taken_none}
use Rattle.clk_model.proofs.VetoLaws.{of_change, ends_it, end_state, end_turn}
use Rattle.clk_model.proofs.ArriveLaws.{wired_before}
use Rattle.clk_model.proofs.WalkGoLaws.{from_first_past}
use Rattle.clk_model.proofs.BeginsLaws.{changes_rate, Starts, raising_handle, lowering_handle, planning, reparents, probing, sweeping, Begins, answers, gives, takes, adjusts, prepares, unprepares, notes, registers, goes_on as goes_in, begins_so}
use Rattle.clk_model.proofs.SafeRunLaws.{one_step_leads, IsRun, run_goes_on}
use Rattle.clk_model.proofs.RunsFedLaws.{run_of}
use Rattle.clk_model.proofs.ScriptLaws.{none_visit, none_flat_in, none_move_of, none_pre, none_aborts, planned_front, planned_is, none_planned_front, is_moving, none_move}
use Rattle.clk_model.proofs.TimeoutStepLaws.{does_more, raises_late, late_calm, late_past, late_front, late_from, from_twice, cut_is_from, IsPowered, differs_of, powered_over, powered_settled, powered_same, step_powers, tier_powers}

-- ---- a flight

-- a call in flight that a timeout drops whole: nothing but power bits has changed, and no raise stands behind a step that does more; or no
-- poll can time out any more
data Stage (q s : State) (k : Change) : Type 0 where
  early : IsPowered q s → raises_late k.left ≡ false → list_any does_more (from_first is_end k.left) ≡ false → (k.timed_out ≡ true → list_any does_more k.left ≡ false) → Stage q s k
  past : k.timed_out ≡ false → list_any raises k.front ≡ false → list_any raises k.left ≡ false → Stage q s k

record IsDropping (q s : State) (what : Sleeping) : Type 0 where
  run : IsRun s
  now : Change
  at : s.change ≡ Some now
  call : now.call ≡ what
  front : IsFront now
  stage : Stage q s now

put_less : (m : Micro) → may_be_put m ≡ true → does_more m ≡ false
put_less (micro.HoldPrepare x) put = absurd cc
put_less (micro.HoldEnable x) put = absurd cc
put_less (micro.Relink c p) put = absurd cc
put_less (micro.WriteMux c place) put = absurd cc
put_less (micro.DropEnable x) put = absurd cc
put_less (micro.DropPrepare x) put = absurd cc
put_less (micro.Visit c) put = absurd cc
put_less (micro.Register c) put = absurd cc
put_less (micro.Settle c) put = absurd cc
put_less m put = refl

more_gentle : (m : Micro) → does_more m ≡ true → raises m ≡ false
more_gentle (micro.Raise x) more = absurd cc
more_gentle (micro.Poll x) more = absurd cc
more_gentle m more = refl

-- the change behind a step
stage_steps : (q s t : State) (d : ℕ) (m : Micro) (answer : Option Bool) (k : Change) → IsStep s t d m answer turn.Going k → IsWired (length s.regs) (wiring s) → IsWired (length t.regs) (wiring t)
    → is_dropped_whole k.call ≡ true → IsFront k → Stage q s k → (j : Change) → IsAfter m (taken k) j → Stage q t j
stage_steps q s t d m answer k step wired wired_t drops front (past on_time none_front_ none_left) j is =
    let gentle : raises m ≡ false = first_none raises m (todo k) step.first (none_append raises k.front k.left none_front_ none_left) in
    let rest = taken_none raises k.front k.left none_front_ none_left in
    elim is.left [
      | inl same ↦ past (same.1 ∙ on_time) (is.calm gentle rest.0) (ap (list_any raises) same.0 ∙ rest.1)
      | inr late ↦ let no : true ≡ false = sym late.0 ∙ gentle in absurd cc
    ]
stage_steps q s t d m answer k step wired wired_t drops front (early powers late only timed) j is = by_place (comes_of k.front k.left m step.first (front_put k front)) where
  u : State
  u = (stepped s (taken k) answer m).0

  valid_u : IsValid (length u.regs) u.defs
  valid_u = (wired_before s u (subst (λ (v : State). IsWired (length v.regs) (wiring v)) (sym step.state) wired_t)).valid

  going : is_end m ≡ false
  going = going_no_end s (taken k) answer m step.answered

  powers_t : does_more m ≡ false → IsPowered q t
  powers_t less = subst (λ (v : State). IsPowered q v) step.state (powered_settled q s u (settled s u).spent (s.steps + 1) valid_u (step_powers q s (taken k) answer m wired.valid less going powers))

  -- behind a step that does no more, where so much of the script was left
  go_on : (ms : List Micro) → does_more m ≡ false → (taken k).left ≡ ms → raises_late ms ≡ false → list_any does_more (from_first is_end ms) ≡ false → (k.timed_out ≡ true → list_any does_more ms ≡ false) → Stage q t j
  go_on ms less left late' only' timed' = elim is.left [
    | inl same ↦
        let here : j.left ≡ ms = same.0 ∙ left in
        early (powers_t less) (ap raises_late here ∙ late') (ap (λ (ns : List Micro). list_any does_more (from_first is_end ns)) here ∙ only')
        (λ e. ap (list_any does_more) here ∙ timed' (sym same.1 ∙ e))
    | inr cut ↦
        let here : j.left ≡ from_first is_end ms = cut.1 ∙ cut_is_from k.call (taken k).left drops ∙ ap (from_first is_end) left in
        early (powers_t less) (ap raises_late here ∙ late_from ms late') (ap (λ (ns : List Micro). list_any does_more (from_first is_end ns)) here ∙ ap (list_any does_more) (from_twice ms) ∙ only')
        (λ e. ap (list_any does_more) here ∙ only')
  ]

  by_more : (ms : List Micro) → k.front ≡ [] → k.left ≡ m ∷ ms → (taken k).left ≡ ms → (b : Bool) → does_more m ≡ b → Stage q t j
  by_more ms empty left rest false less =
      go_on ms less rest (not_either (does_more m && list_any raises ms) (raises_late ms) (sym (ap raises_late left) ∙ late)).1
      (sym (ap (λ (t' : Bool). list_any does_more (if t' then m ∷ ms else from_first is_end ms)) going) ∙ sym (ap (λ (ns : List Micro). list_any does_more (from_first is_end ns)) left) ∙ only)
      (λ e. none_rest does_more m ms (sym (ap (list_any does_more) left) ∙ timed e))
  by_more ms empty left rest true more = elim is.left [
    | inr cut ↦ let no : true ≡ false = sym cut.0 ∙ more_gentle m more in absurd cc
    | inl same ↦
        past (same.1 ∙ on_time k.timed_out refl)
        (is.calm (more_gentle m more) (ap (λ (ns : List Micro). list_any raises (rest_of ns)) empty))
        (ap (list_any raises) (same.0 ∙ rest)
        ∙ sym (ap (λ (b : Bool). b && list_any raises ms) more) ∙ (not_either (does_more m && list_any raises ms) (raises_late ms) (sym (ap raises_late left) ∙ late)).0)
  ] where
    on_time : (b : Bool) → k.timed_out ≡ b → b ≡ false
    on_time false e = refl
    on_time true e = let no : true ≡ false = sym more ∙ none_front does_more m ms (sym (ap (list_any does_more) left) ∙ timed e) in absurd cc

  by_place : Comes k.front k.left m → Stage q t j
  by_place (was_put front_ put same) = go_on k.left (put_less m put) same late only timed
  by_place (was_own empty left) = by_more (taken k).left empty left refl (does_more m) refl

dropping_steps : (q s t : State) (d : ℕ) (what : Sleeping) (m : Micro) (answer : Option Bool) → is_dropped_whole what ≡ true → IsDropping q s what → next s d (event.Step m answer) ≡ Some (t, turn.Going) → IsDropping q t what
unfolding settled
dropping_steps q s t d what m answer drops is step =
    let k : Change = is.now in
    let of = of_change s t d m answer turn.Going k is.at step in
    let run_t = run_goes_on s t d (event.Step m answer) turn.Going is.run step in
    let after = step_after s (taken k) answer m of.answered in
    record {
      run = run_t;
      now = after.0;
      at = sym (ap (λ (u : State). u.change) of.state) ∙ after.1;
      call = after.2.call ∙ is.call;
      front = front_after s k after.0 answer m is.front of.first of.answered after.1;
      stage = stage_steps q s t d m answer k of is.run.wired run_t.wired (ap is_dropped_whole is.call ∙ drops) is.front is.stage after.0 after.2;
    }

dropping_beside : (q s t : State) (other : ℕ) (what : Sleeping) (e : Event) (x : Turn) → is_enable_tier e ≡ true → IsDropping q s what → next s other e ≡ Some (t, x) → IsDropping q t what
dropping_beside q s t other what e x tier is step = record {
  run = run_goes_on s t other e x is.run step;
  now = is.now;
  at = beside_change s t other e x tier step ∙ is.at;
  call = is.call;
  front = is.front;
  stage = by_stage is.stage;
} where
  by_stage : Stage q s is.now → Stage q t is.now
  by_stage (early powers late only timed) = early (tier_powers q s t other e x is.run.wired.valid tier step powers) late only timed
  by_stage (past on_time none_front_ none_left) = past on_time none_front_ none_left

-- ---- beginnings

-- the script of a change of parent: its one raise stands in front of all that does more
late_move : (q : State) (c p : ℕ) → raises_late (move q.defs q.clocks (prepared q) c p) ≡ false
late_move q c p =
    either (prepared q c) _ _
    (late_past (micro.Raise (clock_id p) ∷ []) (micro.HoldPrepare (clock_id p) ∷ micro.HoldEnable (clock_id p) ∷ micro.HoldEnable (clock_id c)
    ∷ micro.Relink (clock_id c) (clock_id p) ∷ micro.WriteMux (clock_id c) (place_of q.defs c p) ∷ micro.DropEnable (clock_id c) ∷ option_map_or unfeed (link_in q.clocks c) []) refl (late_calm (micro.HoldPrepare (clock_id p) ∷ micro.HoldEnable (clock_id p) ∷ micro.HoldEnable (clock_id c)
    ∷ micro.Relink (clock_id c) (clock_id p) ∷ micro.WriteMux (clock_id c) (place_of q.defs c p) ∷ micro.DropEnable (clock_id c) ∷ option_map_or unfeed (link_in q.clocks c) []) (lets (link_in q.clocks c))))
    (either (runs_parent q.defs c) _ _
    (late_past (micro.Raise (clock_id c) ∷ micro.Raise (clock_id p) ∷ []) (micro.HoldPrepare (clock_id c) ∷ micro.HoldEnable (clock_id c)
    ∷ micro.HoldPrepare (clock_id p) ∷ micro.HoldEnable (clock_id p)
    ∷ micro.Relink (clock_id c) (clock_id p) ∷ micro.WriteMux (clock_id c) (place_of q.defs c p) ∷ option_map_or unfeed (link_in q.clocks c) [] ++ unfeed c) refl (late_calm (micro.HoldPrepare (clock_id c) ∷ micro.HoldEnable (clock_id c)
    ∷ micro.HoldPrepare (clock_id p) ∷ micro.HoldEnable (clock_id p)
    ∷ micro.Relink (clock_id c) (clock_id p) ∷ micro.WriteMux (clock_id c) (place_of q.defs c p) ∷ option_map_or unfeed (link_in q.clocks c) [] ++ unfeed c) (more (link_in q.clocks c)))) refl) where
      lets : (l : Option ℕ) → list_any raises (option_map_or unfeed l []) ≡ false
      lets None = refl
      lets (Some o) = refl

      more : (l : Option ℕ) → list_any raises (option_map_or unfeed l [] ++ unfeed c) ≡ false
      more None = refl
      more (Some o) = refl

      either : (t : Bool) (xs ys : List Micro) → raises_late xs ≡ false → raises_late ys ≡ false → raises_late (cond t xs ys) ≡ false
      either true xs ys e f = e
      either false xs ys e f = f

pub no_end : (m : Micro) → is_moving m ≡ true → is_end m ≡ false
no_end micro.End moves_ = absurd cc
no_end m moves_ = refl

-- a chain of one step
late_own : (q : State) (k : ChainStep) (w : ℕ) → raises_late (move_of q.defs q.clocks (prepared q) (k ∷ []) w) ≡ false
late_own q k w = one ((k.clock == w) && moves q.clocks k) k.parent where
  nothing_more : (ms : List Micro) → raises_late ms ≡ false → raises_late (ms ++ []) ≡ false
  nothing_more ms late = late_front ms [] refl late

  by_parent : (o : Option ℕ) → raises_late (option_map_or (move q.defs q.clocks (prepared q) w) o []) ≡ false
  by_parent None = refl
  by_parent (Some p) = late_move q w p

  one : (t : Bool) (o : Option ℕ) → raises_late (flat_map (λ l. option_map_or (move q.defs q.clocks (prepared q) w) l.parent []) (cond t (k ∷ []) [])) ≡ false
  one false o = refl
  one true o = nothing_more (option_map_or (move q.defs q.clocks (prepared q) w) k.parent []) (by_parent k.parent)

-- nothing runs for the visit of a clock that a chain sets nothing of
visit_alone : (q : State) (k : ChainStep) (x : ℕ) → has_setting (kind_of q.defs k.clock) ≡ false → visit_of q.defs q.clocks (k ∷ []) x ≡ micro.Visit (clock_id x) ∷ []
visit_alone q k x bare = by_clock (k.clock == x) refl where
  by_clock : (t : Bool) → (k.clock == x) ≡ t → visit_of q.defs q.clocks (k ∷ []) x ≡ micro.Visit (clock_id x) ∷ []
  by_clock false e = ap (λ (t : Bool). fed_step (if (t || false) && has_setting (kind_of q.defs x) then (if runs_to_set q.defs x then Some x else if runs_parent q.defs x then link_in q.clocks x else None) else None) (micro.Visit (clock_id x))) e
  by_clock true e =
      ap (λ (t : Bool). fed_step (if (t || false) && has_setting (kind_of q.defs x) then (if runs_to_set q.defs x then Some x else if runs_parent q.defs x then link_in q.clocks x else None) else None) (micro.Visit (clock_id x))) e
      ∙ ap (λ (t : Bool). fed_step (if t then (if runs_to_set q.defs x then Some x else if runs_parent q.defs x then link_in q.clocks x else None) else None) (micro.Visit (clock_id x)))
      (subst (λ (y : ℕ). has_setting (kind_of q.defs y) ≡ false) (same_from_test k.clock x e) bare)

late_walked : (q : State) (k : ChainStep) (ws : List ℕ) → has_setting (kind_of q.defs k.clock) ≡ false → slice_get ws 0 ≡ Some k.clock → none_twice ws ≡ true → raises_late (flat_map (walked_at q (k ∷ [])) ws) ≡ false
late_walked q k [] bare at once = absurd cc
late_walked q k (w ∷ ws) bare at once =
    late_front (walked_at q (k ∷ []) w) (flat_map (walked_at q (k ∷ [])) ws)
    (none_flat_in raises (walked_at q (k ∷ [])) ws
    (λ x m. none_append raises (move_of q.defs q.clocks (prepared q) (k ∷ []) x) (visit_of q.defs q.clocks (k ∷ []) x)
    (none_move_of raises q.defs q.clocks (prepared q) (k ∷ []) x ((λ same p is. absurd (twice x m same)), tt)) (ap (list_any raises) (visit_alone q k x bare))))
    (late_front (move_of q.defs q.clocks (prepared q) (k ∷ []) w) (visit_of q.defs q.clocks (k ∷ []) w) (ap (list_any raises) (visit_alone q k w bare)) (late_own q k w)) where
      twice : (x : ℕ) → is_in x ws ≡ true → k.clock ≡ x → ⊥
      twice x m same =
          let first : w ≡ k.clock = cc in
          let no : false ≡ true = sym (once_head w ws once).0 ∙ ap (λ (v : ℕ). is_in v ws) (first ∙ same) ∙ m in
          cc

parent_stage : (q : State) (k : ChainStep) (settles : List Micro) → IsRun q → has_setting (kind_of q.defs k.clock) ≡ false → LeadsFrom (wiring q) k.clock (k ∷ []) → list_any raises settles ≡ false → list_any is_end settles ≡ false
    → (raises_late (planned q (k ∷ []) settles).steps ≡ false) × (list_any does_more (from_first is_end (planned q (k ∷ []) settles).steps) ≡ false)
parent_stage q k settles run bare leads calm none = (
  ap raises_late (planned_is q (k ∷ []) settles)
      ∙ late_front (planned_front q (k ∷ []) settles) (micro.End ∷ []) refl
      (late_past (pre_notices q (k ∷ [])) _ (none_pre does_more q (k ∷ []) (λ kind c id old new. refl)) (middle (list_any is_veto (pre_notices q (k ∷ []))))),
  ap (λ (ms : List Micro). list_any does_more (from_first is_end ms)) (planned_is q (k ∷ []) settles)
      ∙ ap (list_any does_more)
      (from_first_past is_end (planned_front q (k ∷ []) settles) (micro.End ∷ [])
      (none_planned_front is_end q (k ∷ []) settles (λ kind c id old new. refl)
      (λ c. none_move_of is_end q.defs q.clocks (prepared q) (k ∷ []) c ((λ same p is. none_move is_end q c p no_end), tt)) (λ c. none_visit is_end q.defs q.clocks (k ∷ []) c feeding_no_end refl) none)),
) where
  ws : List ℕ
  ws = walk q.order (wiring q) (k ∷ [])

  is_walk : IsWalk q.order (wiring q) (k ∷ [])
  is_walk = (walks_list (length q.regs) q.order (wiring q) k.clock (k ∷ []) run.wired run.keeps.order leads).0

  middle : (v : Bool) → raises_late (cond v (abort_notices q (k ∷ [])) (walked q (k ∷ []) ++ settles)) ≡ false
  middle true = late_calm (abort_notices q (k ∷ [])) (none_aborts raises (plan_rates q (k ∷ [])) q.notifiers (changing q.order (wiring q) (k ∷ [])) (λ kind c id old new. refl))
  middle false = late_front (walked q (k ∷ [])) settles calm (late_walked q k ws bare is_walk.first is_walk.once)

mux_bare : (kind : Kind) → is_some (mux_field kind) ≡ true → has_setting kind ≡ false
mux_bare (Mux word shift width read_only) is = refl
mux_bare (FixedRate rate) is = refl
mux_bare (Factor mult div) is = refl
mux_bare (Gate word bit set_to_disable) is = refl
mux_bare (Divider word shift width one_based power_of_two) is = absurd cc
mux_bare (Pll word shift width power_word power_bit least most m) is = absurd cc

dropped_parent : (what : Sleeping) → changes_rate what ≡ true → is_dropped_whole what ≡ true → ⊥
dropped_parent (call.SetRate h x) is drops = absurd cc
dropped_parent (call.SetRateExclusive h x) is drops = absurd cc
dropped_parent (call.SetRange h least most) is drops = absurd cc
dropped_parent _ is drops = absurd cc

-- the change that such a call begins with
starts_early : (q n : State) (d : ℕ) (what : Sleeping) (k : Change) → IsRun q → is_dropped_whole what ≡ true → Starts q d what n k → ((n ≡ q) × (k.front ≡ []) × (k.call ≡ what))
    × (raises_late k.left ≡ false) × (list_any does_more (from_first is_end k.left) ≡ false) × (k.timed_out ≡ false)
starts_early q n d what k run drops (raising_handle h row is at) = ((refl, refl, refl), refl, refl, refl)
starts_early q n d what k run drops (lowering_handle h row is at gives_up) = let no : false ≡ true = ap is_dropped_whole (sym is) ∙ drops in absurd cc
starts_early q n d what k run drops (planning _ number row over x ks range planned_ at is rates) = absurd (dropped_parent what rates drops)
starts_early q n d what k run drops (reparents number row p sets at away mux m root) =
    let rate_ : ℕ = rate_in (outcome (record { clock = row.clock.0; rate = 0; parent = Some p } ∷ []) (wiring q)) row.clock.0 in
    let stage = parent_stage q (record { clock = row.clock.0; rate = rate_; parent = Some p }) (micro.Settle row.clock ∷ []) run (mux_bare (kind_of q.defs row.clock.0) mux) (one_step_leads q row.clock.0 p rate_ m) refl refl in
    ((refl, refl, refl), stage.0, stage.1, refl)
starts_early q n d what k run drops (probing c is free) = let no : false ≡ true = ap is_dropped_whole (sym is) ∙ drops in absurd cc
starts_early q n d what k run drops (sweeping is) = let no : false ≡ true = ap is_dropped_whole (sym is) ∙ drops in absurd cc

powered_start : (q : State) → IsPowered q q
powered_start q = record { defs = refl; clocks = refl; order = refl; handles = λ number. refl; notifiers = refl; prepare_holds = refl; fields = λ c f at. refl }

dropping_begins : (q s : State) (d : ℕ) (what : Sleeping) → IsRun q → is_dropped_whole what ≡ true → next q d (event.Begin what) ≡ Some (s, turn.Going) → IsDropping q s what
unfolding settled
dropping_begins q s d what run drops step = by_case (begun q d what) (begins_so q d what) start.2 start.1 where
  start : (q.change ≡ None) × (record (settled q (begun q d what).0) { spent = q.spent + 1 } ≡ s) × ((begun q d what).1 ≡ turn.Going)
  start = begin_is q s d what turn.Going step

  run_s : IsRun s
  run_s = run_goes_on q s d (event.Begin what) turn.Going run step

  goes_ : (n : State) (k : Change) → Starts q d what n k → record (settled q (record n { change = Some k })) { spent = q.spent + 1 } ≡ s → IsDropping q s what
  goes_ n k starts_ state =
      let is = starts_early q n d what k run drops starts_ in
      let u : State = record n { change = Some k } in
      let valid_u = (wired_before q u (subst (λ (v : State). IsWired (length v.regs) (wiring v)) (sym state) run_s.wired)).valid in
      let powers_u : IsPowered q u = powered_same q n (Some k) (subst (λ (v : State). IsPowered q v) (sym is.0.0) (powered_start q)) in
      record {
        run = run_s;
        now = k;
        at = sym (ap (λ (v : State). v.change) state);
        call = is.0.2;
        front = nothing is.0.1;
        stage = early (subst (λ (v : State). IsPowered q v) state (powered_settled q q u (q.spent + 1) (settled q u).steps valid_u powers_u)) is.1 is.2 (λ e. let no : true ≡ false = sym e ∙ is.3 in absurd cc);
      }

  by_case : (y : State × Turn) → Begins q d what y → y.1 ≡ turn.Going → record (settled q y.0) { spent = q.spent + 1 } ≡ s → IsDropping q s what
  by_case y (goes_in n k starts_) going state = goes_ n k starts_ state
  by_case y (answers r) going state = absurd cc
  by_case y (gives c root) going state = absurd cc
  by_case y (takes number row at idle) going state = absurd cc
  by_case y (adjusts number old new r adjusted) going state = absurd cc
  by_case y (prepares number row at calm_) going state = absurd cc
  by_case y (unprepares number row at gives_up) going state = absurd cc
  by_case y (notes notifiers r) going state = absurd cc
  by_case y (registers c free calm_) going state = absurd cc

dropping_of : (q : State) (d : ℕ) (what : Sleeping) → IsRun q → is_dropped_whole what ≡ true → {s : State} {made : List Micro} → Flight q d what s made → IsDropping q s what
dropping_of q d what run drops {s = s} (begins step) = dropping_begins q s d what run drops step
dropping_of q d what run drops {s = t} (goes_on {s = s} m answer flight step) = dropping_steps q s t d what m answer drops (dropping_of q d what run drops flight) step
dropping_of q d what run drops {s = t} (beside {s = s} {x = x} other e tier flight step) = dropping_beside q s t other what e x tier (dropping_of q d what run drops flight) step

-- ---- the end

-- a call that is refused by ETIMEDOUT has timed out
late_reply : (s : State) (k : Change) → (end_of s k).1 ≡ turn.Done (reply.Refused errno.ETIMEDOUT) → k.timed_out ≡ true
late_reply s k e = both k.vetoed k.timed_out e where
  both : (v b : Bool) → turn.Done (if v then reply.Refused errno.EBUSY else if b then reply.Refused errno.ETIMEDOUT else reply.Fine) ≡ turn.Done (reply.Refused errno.ETIMEDOUT) → b ≡ true
  both v true f = refl
  both true false f = absurd cc
  both false false f = absurd cc

ranged_same : (what : Sleeping) (range : Option (ℕ × ℕ)) (handles : List (Option HandleRow)) → is_dropped_whole what ≡ true → range_back what range handles ≡ handles
ranged_same (call.Prepare h) range handles drops = refl
ranged_same (call.SetParent h p) range handles drops = refl
ranged_same _ range handles drops = absurd cc

end_powers : (q s : State) (k : Change) → is_dropped_whole k.call ≡ true → k.timed_out ≡ true → IsPowered q s → IsPowered q (end_of s k).0
end_powers q s k drops late is = either k.vetoed k.timed_out late where
  kept : IsPowered q (record (unranged s k) { change = None })
  kept = powered_over q s _ is refl refl refl (ranged_same k.call k.range s.handles drops) refl refl (λ c f at. refl)

  either : (v b : Bool) → b ≡ true → IsPowered q (record (cond (v || b) (unranged s k) (ended_well s k.driver k.call)) { change = None })
  either true b e = kept
  either false true e = kept
  either false false e = absurd cc

pub timeouts_leave_nothing : TimeoutsLeaveNothing
timeouts_leave_nothing defs regs ignore_unused credits before s t d what made m answer valid drops flight step = by_stage is.stage where
  q : State
  q = replay (opening defs regs ignore_unused credits) before

  is : IsDropping q s what
  is = dropping_of q d what (run_of defs regs ignore_unused credits before valid) drops flight

  k : Change
  k = is.now

  of : IsStep s t d m answer (turn.Done (reply.Refused errno.ETIMEDOUT)) k
  of = of_change s t d m answer (turn.Done (reply.Refused errno.ETIMEDOUT)) k is.at step

  end_ : m ≡ micro.End
  end_ = ends_it s (taken k) answer m (reply.Refused errno.ETIMEDOUT) of.answered

  late : k.timed_out ≡ true
  late = late_reply s (taken k) (sym (end_turn s (taken k) answer m end_) ∙ of.answered)

  u : State
  u = (end_of s (taken k)).0

  state : record (settled s u) { steps = s.steps + 1 } ≡ t
  state = ap (λ (v : State). let x : State = record (settled s v) { steps = s.steps + 1 } in x) (sym (end_state s (taken k) answer m end_)) ∙ of.state

  run_t : IsRun t
  run_t = run_goes_on s t d (event.Step m answer) (turn.Done (reply.Refused errno.ETIMEDOUT)) is.run step

  by_stage : Stage q s k → DiffersInPower q t
  by_stage (past on_time none_front_ none_left) = let no : true ≡ false = sym late ∙ on_time in absurd cc
  by_stage (early powers late_ only timed) =
      let valid_u = (wired_before s u (subst (λ (v : State). IsWired (length v.regs) (wiring v)) (sym state) run_t.wired)).valid in
      differs_of q t
      (subst (λ (v : State). IsPowered q v) state
      (powered_settled q s u (settled s u).spent (s.steps + 1) valid_u (end_powers q s (taken k) (ap is_dropped_whole is.call ∙ drops) late powers)))
