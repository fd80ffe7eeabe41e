-- Laws on changes that go well: who was asked before one are those that its plan names, and nobody else.
use Rattle.std.proofs.Common.{◌≡◌, ◌+◌, ℕ, Bool, true, false, cond, List, [], ◌∷◌, ◌++◌, Some, None, refl, sym, ap, subst, ◌∙◌}
use Rattle.std.proofs.lemmas.List.{append-nil, append_assoc}
use Rattle.std.proofs.lemmas.List.Elements.{filter-append}
use Rattle.std.specs.Prelude.{filter, flat_map, slice_index, if◌then◌else◌}
use Rattle.std.specs.List.{list_any}
use Rattle.std.specs.Option.{option_map_or}
use Rattle.clk_base.specs.declared.call.Micro.{Micro}
use Rattle.clk_base.specs.declared.call.Micro.TheVariants as micro
use Rattle.clk_base.specs.declared.call.Notice.TheVariants as notice
use Rattle.clk_base.specs.declared.call.Sleeping.{Sleeping}
use Rattle.clk_base.specs.declared.event.Event.TheVariants as event
use Rattle.clk_base.specs.declared.event.Reply.TheVariants as reply
use Rattle.clk_base.specs.declared.event.Turn.{Turn}
use Rattle.clk_base.specs.declared.event.Turn.TheVariants as turn
use Rattle.clk_model.specs.State.{State, Change, ChainStep, NotifierRow}
use Rattle.clk_model.specs.Holders.{prepared}
use Rattle.clk_model.specs.Gates.{settled}
use Rattle.clk_model.specs.Round.{wiring}
use Rattle.clk_model.specs.Chain.{clock_id}
use Rattle.clk_model.specs.Walk.{walk, changing}
use Rattle.clk_model.specs.Notices.{vetoes, until_veto, notifiers_of, is_veto}
use Rattle.clk_model.specs.Script.{move_of, planned}
use Rattle.clk_model.specs.Begin.{begun}
use Rattle.clk_model.specs.Step.{taken, is_end, from_first}
use Rattle.clk_model.specs.Machine.{next}
use Rattle.clk_model.specs.Laws.Flight.{plan, plan_rates, script, pre_notices, abort_notices, may_be_put, IsLeftOf, all_left, own_made, put_made, cut, IsUnderWay}
use Rattle.clk_model.specs.Laws.ChangesTold.{is_pre, ChangesAreAsked}
use Rattle.clk_model.specs.Laws.PlansRead.{plans}
use Rattle.clk_model.proofs.NoneLaws.{none_append, none_map, none_flat_map, none_if, none_front, none_rest, none_behind}
use Rattle.clk_model.proofs.BeginLaws.{walked_at, walked}
use Rattle.clk_model.proofs.FlightLaws.{IsStep, begin_is, front_put, script_left}
use Rattle.clk_model.proofs.VetoLaws.{of_change, ends_it, end_turn}
use Rattle.clk_model.proofs.WalkGoLaws.{from_first_past}
use Rattle.clk_model.proofs.NextLaws.{Comes, was_put, was_own, comes_of}
use Rattle.clk_model.proofs.ScriptLaws.{NoMove, none_move_of, none_planned_front, planned_front, planned_is, is_moving, none_move}
use Rattle.clk_model.proofs.ProbeGoLaws.{Resting}
use Rattle.clk_model.proofs.BeginsLaws.{Begins, answers, gives, takes, adjusts, prepares, unprepares, notes, registers, goes_on as goes_in, begins_so}
use Rattle.clk_model.proofs.BeginSafeLaws.{resting}
use Rattle.clk_model.proofs.SafeRunLaws.{IsRunning, quietly, in_flight, IsRun}
use Rattle.clk_model.proofs.RunsFedLaws.{run_of}
use Rattle.clk_model.proofs.ToldFlightLaws.{all_moves, PlanBegins, plan_begins}
use Rattle.clk_model.proofs.ToldRunLaws.{went_well}
use Rattle.clk_model.proofs.TimeoutLaws.{no_end}
use Rattle.clk_model.proofs.BalanceLaws.{began}
use Rattle.clk_model.proofs.FeedLaws.{NoFeeding}
use Rattle.clk_model.specs.Script.{visit_of}
use Rattle.clk_model.proofs.PlanGoLaws.{feeding_no_end}
use Rattle.clk_model.proofs.ScriptLaws.{none_visit}

-- ---- lists of steps

-- the notices before a change among steps
abbrev asks : List Micro → List Micro
asks ms = filter is_pre ms

none_asked : (ms : List Micro) → list_any is_pre ms ≡ false → asks ms ≡ []
none_asked [] none = refl
none_asked (m ∷ ms) none = ap (λ (b : Bool). cond b (m ∷ asks ms) (asks ms)) (none_front is_pre m ms none) ∙ none_asked ms (none_rest is_pre m ms none)

until_veto_asks : (n : State) (ks : List ChainStep) (c : ℕ) (ns : List NotifierRow) → asks (until_veto (plan_rates n ks) c ns) ≡ until_veto (plan_rates n ks) c ns
until_veto_asks n ks c [] = refl
until_veto_asks n ks c (r ∷ ns) = one (vetoes r.policy (slice_index (plan_rates n ks).outcome c)) (until_veto_asks n ks c ns) where
  first : Micro
  first = micro.Notify (notice.Pre (vetoes r.policy (slice_index (plan_rates n ks).outcome c))) (clock_id c) r.id (slice_index (plan_rates n ks).before c) (slice_index (plan_rates n ks).outcome c)

  one : (v : Bool) → asks (until_veto (plan_rates n ks) c ns) ≡ until_veto (plan_rates n ks) c ns
      → asks (first ∷ (if v then [] else until_veto (plan_rates n ks) c ns)) ≡ first ∷ (if v then [] else until_veto (plan_rates n ks) c ns)
  one true rest = refl
  one false rest = ap (λ (ms : List Micro). first ∷ ms) rest

all_asks : (n : State) (ks : List ChainStep) (cs : List ℕ) → let tells : ℕ → List Micro = λ c. until_veto (plan_rates n ks) c (notifiers_of n.notifiers c) in asks (flat_map tells cs) ≡ flat_map tells cs
all_asks n ks [] = refl
all_asks n ks (c ∷ cs) =
    let tells : ℕ → List Micro = λ x. until_veto (plan_rates n ks) x (notifiers_of n.notifiers x) in
    filter-append is_pre (tells c) (flat_map tells cs)
    ∙ ap (λ (ms : List Micro). ms ++ asks (flat_map tells cs)) (until_veto_asks n ks c (notifiers_of n.notifiers c))
    ∙ ap (λ (ms : List Micro). tells c ++ ms) (all_asks n ks cs)

-- ---- scripts

no_pre : (m : Micro) → is_moving m ≡ true → is_pre m ≡ false
no_pre (micro.Notify kind d id old new) moves_ = absurd cc
no_pre m moves_ = refl

feeding_no_pre : NoFeeding is_pre
feeding_no_pre (micro.Notify kind d id old new) e = absurd cc
feeding_no_pre m e = refl

-- behind the notices before it a plan's script asks nobody
none_later : (n : State) (ks : List ChainStep) (settles : List Micro) (v : Bool) → list_any is_pre settles ≡ false → list_any is_pre (cond v (abort_notices n ks) (walked n ks ++ settles)) ≡ false
none_later n ks settles v silent =
    none_if is_pre v (abort_notices n ks) (walked n ks ++ settles)
    (none_flat_map is_pre (λ x. _) (changing n.order (wiring n) ks)
    (λ x. none_map is_pre (λ (r : NotifierRow). micro.Notify notice.Abort (clock_id x) r.id (slice_index (plan_rates n ks).before x) (slice_index (plan_rates n ks).outcome x)) (notifiers_of n.notifiers x) (λ r. refl)))
    (none_append is_pre (walked n ks) settles
    (none_flat_map is_pre (walked_at n ks) (walk n.order (wiring n) ks)
    (λ x. none_append is_pre (move_of n.defs n.clocks (prepared n) ks x) (visit_of n.defs n.clocks ks x)
    (none_move_of is_pre n.defs n.clocks (prepared n) ks x (all_moves (NoMove is_pre n.defs n.clocks (prepared n) x) ks (λ k same p at. none_move is_pre n x p no_pre)))
    (none_visit is_pre n.defs n.clocks ks x feeding_no_pre refl)))
    silent)

planned_asks : (n : State) (ks : List ChainStep) (settles : List Micro) → list_any is_pre settles ≡ false → asks (planned n ks settles).steps ≡ pre_notices n ks
planned_asks n ks settles silent =
    ap asks (planned_is n ks settles)
    ∙ filter-append is_pre (planned_front n ks settles) (micro.End ∷ [])
    ∙ append-nil (asks (planned_front n ks settles))
    ∙ filter-append is_pre (pre_notices n ks) later
    ∙ ap (λ (ms : List Micro). asks (pre_notices n ks) ++ ms) (none_asked later (none_later n ks settles (list_any is_veto (pre_notices n ks)) silent))
    ∙ append-nil (asks (pre_notices n ks))
    ∙ all_asks n ks (changing n.order (wiring n) ks) where
      later : List Micro
      later = cond (list_any is_veto (pre_notices n ks)) (abort_notices n ks) (walked n ks ++ settles)

-- its end is its last step
planned_ends : (n : State) (ks : List ChainStep) (settles : List Micro) → list_any is_end settles ≡ false → from_first is_end (planned n ks settles).steps ≡ micro.End ∷ []
planned_ends n ks settles none =
    ap (from_first is_end) (planned_is n ks settles)
    ∙ from_first_past is_end (planned_front n ks settles) (micro.End ∷ [])
    (none_planned_front is_end n ks settles (λ kind x id old new. refl)
    (λ x. none_move_of is_end n.defs n.clocks (prepared n) ks x (all_moves (NoMove is_end n.defs n.clocks (prepared n) x) ks (λ k same p at. none_move is_end n x p no_end))) (λ x. none_visit is_end n.defs n.clocks ks x feeding_no_end refl) none)

-- ---- beginnings

record AsksFirst (q : State) (ks : List ChainStep) (whole : List Micro) : Type 0 where
  asked : asks whole ≡ pre_notices q ks
  ends : from_first is_end whole ≡ micro.End ∷ []

abbrev chain_in : State → List ChainStep
chain_in s = option_map_or (λ k. k.chain) s.change []

abbrev script_in : State → List Micro
script_in s = option_map_or (λ k. k.left) s.change []

begins_asking : (q s : State) (d : ℕ) (what : Sleeping) → IsRun q → plans what ≡ true → next q d (event.Begin what) ≡ Some (s, turn.Going) → AsksFirst q (plan q d what) (script q d what)
unfolding settled
begins_asking q s d what run plans_ step = by_case (begun q d what) (begins_so q d what) start.2 where
  start : (q.change ≡ None) × (record (settled q (begun q d what).0) { spent = q.spent + 1 } ≡ s) × ((begun q d what).1 ≡ turn.Going)
  start = begin_is q s d what turn.Going step

  rest : Resting q
  rest = by_running run.running_ where
    by_running : IsRunning q → Resting q
    by_running (quietly e at_rest) = resting q at_rest run.keeps
    by_running (in_flight goes) = let no : Some goes.change ≡ None = sym goes.at ∙ start.0 in absurd cc

  goes_ : (n : State) (k : Change) → PlanBegins q n k → AsksFirst q k.chain k.left
  goes_ n k is = record {
    asked = ap asks is.left ∙ planned_asks n k.chain is.settles is.unasking ∙ is.asks;
    ends = ap (from_first is_end) is.left ∙ planned_ends n k.chain is.settles is.ends;
  }

  by_case : (y : State × Turn) → Begins q d what y → y.1 ≡ turn.Going → AsksFirst q (chain_in y.0) (script_in y.0)
  by_case y (goes_in n k starts_) going = goes_ n k (plan_begins q n d what k rest plans_ starts_)
  by_case y (answers r) going = absurd cc
  by_case y (gives x root) going = absurd cc
  by_case y (takes number row at idle) going = absurd cc
  by_case y (adjusts number old new r adjusted) going = absurd cc
  by_case y (prepares number row at calm_) going = absurd cc
  by_case y (unprepares number row at gives_up) going = absurd cc
  by_case y (notes notifiers r) going = absurd cc
  by_case y (registers x free calm_) going = absurd cc

-- ---- on the way

put_asks_nobody : (m : Micro) → may_be_put m ≡ true → is_pre m ≡ false
put_asks_nobody (micro.Notify (notice.Pre veto) c id old new) put = absurd cc
put_asks_nobody m put = refl

-- without a timeout, what was asked and what is still to be asked are the whole
asked_so_far : (what : Sleeping) (whole : List Micro) {made : List Micro} {late : Bool} {left : List Micro} → IsLeftOf what whole made late left → late ≡ false → asks made ++ asks left ≡ asks whole
asked_so_far what whole all_left on_time_ = refl
asked_so_far what whole {left = left} (own_made {made = made} m f) on_time_ =
    ap (λ (ms : List Micro). ms ++ asks left) (filter-append is_pre made (m ∷ []))
    ∙ append_assoc (asks made) (asks (m ∷ [])) (asks left)
    ∙ ap (λ (ms : List Micro). asks made ++ ms) (sym (filter-append is_pre (m ∷ []) left))
    ∙ asked_so_far what whole f on_time_
asked_so_far what whole {left = left} (put_made {made = made} m put f) on_time_ =
    ap (λ (ms : List Micro). ms ++ asks left) (filter-append is_pre made (m ∷ []) ∙ ap (λ (b : Bool). asks made ++ cond b (m ∷ []) []) (put_asks_nobody m put) ∙ append-nil (asks made))
    ∙ asked_so_far what whole f on_time_
asked_so_far what whole (cut f c) on_time_ = absurd cc

-- what begins with the end and is an end of a script asks nobody, where nothing behind the script's end does
none_behind_first : (front left : List Micro) → from_first is_end (front ++ micro.End ∷ left) ≡ micro.End ∷ [] → list_any is_pre left ≡ false
none_behind_first [] left is = ap (list_any is_pre) is
none_behind_first (m ∷ ms) left is = by_first (λ f. none_behind_first ms left f) (is_end m) is where
  by_first : (from_first is_end (ms ++ micro.End ∷ left) ≡ micro.End ∷ [] → list_any is_pre left ≡ false) → (t : Bool) → (if t then m ∷ (ms ++ micro.End ∷ left) else from_first is_end (ms ++ micro.End ∷ left)) ≡ micro.End ∷ [] → list_any is_pre left ≡ false
  by_first later false f = later f
  by_first later true f =
      let none : list_any is_pre (m ∷ (ms ++ micro.End ∷ left)) ≡ false = ap (list_any is_pre) f in
      none_behind is_pre ms (micro.End ∷ left) (none_rest is_pre m (ms ++ micro.End ∷ left) none)

-- ---- the end

pub changes_are_asked : ChangesAreAsked
changes_are_asked defs regs ignore_unused credits before q s t d what made m answer valid plans_ replayed flight step =
    sym (append-nil (asks made)) ∙ ap (λ (ms : List Micro). asks made ++ ms) (sym (none_asked k.left ended)) ∙ asked_so_far what (script q d what) is.left well.1 ∙ first.asked where
      run : IsRun q
      run = subst (λ (v : State). IsRun v) replayed (run_of defs regs ignore_unused credits before valid)

      first : AsksFirst q (plan q d what) (script q d what)
      first = let begin = began q d what flight in begins_asking q begin.0 d what run plans_ begin.1

      is : IsUnderWay q d what s made
      is = script_left q s d what made flight

      k : Change
      k = is.now

      of : IsStep s t d m answer (turn.Done reply.Fine) k
      of = of_change s t d m answer (turn.Done reply.Fine) k is.at step

      end_ : m ≡ micro.End
      end_ = ends_it s (taken k) answer m reply.Fine of.answered

      well : (k.vetoed ≡ false) × (k.timed_out ≡ false)
      well = went_well s (taken k) (sym (end_turn s (taken k) answer m end_) ∙ of.answered)

      by_place : Comes k.front k.left m → list_any is_pre k.left ≡ false
      by_place (was_put at put left) = let no : false ≡ true = ap may_be_put (sym end_) ∙ put in absurd cc
      by_place (was_own empty left) =
          let whole : k.left ≡ micro.End ∷ (taken k).left = left ∙ ap (λ (x : Micro). x ∷ (taken k).left) end_ in
          let suffix = is.suffix well.1 in
          ap (list_any is_pre) whole
          ∙ none_behind_first suffix.0 (taken k).left (ap (from_first is_end) (sym (suffix.1 ∙ ap (λ (ms : List Micro). suffix.0 ++ ms) whole)) ∙ first.ends)

      ended : list_any is_pre k.left ≡ false
      ended = by_place (comes_of k.front k.left m of.first (front_put k is.front))
