-- Laws on changes that go well, from their beginning to their end: what was told at the end is what each clock was to hear.
use Rattle.std.proofs.Common.{◌≡◌, ℕ, ◌+◌, Bool, true, false, cond, List, [], ◌∷◌, ◌++◌, Option, Some, None, refl, sym, ap, subst, ◌∙◌, ◌⊎◌, inl, inr, length}
use Rattle.std.proofs.lemmas.List.{append-nil}
use Rattle.std.specs.Prelude.{filter, if◌then◌else◌}
use Rattle.std.specs.List.{list_any}
use Rattle.std.specs.Option.{option_map_or}
use Rattle.clk_base.specs.declared.call.Micro.{Micro}
use Rattle.clk_base.specs.declared.call.Micro.TheVariants as micro
use Rattle.clk_base.specs.declared.call.Sleeping.{Sleeping}
use Rattle.clk_base.specs.declared.event.Errno.TheVariants as errno
use Rattle.clk_base.specs.declared.event.Event.{Event}
use Rattle.clk_base.specs.declared.event.Event.TheVariants as event
use Rattle.clk_base.specs.declared.event.Reply.TheVariants as reply
use Rattle.clk_base.specs.declared.event.Turn.{Turn}
use Rattle.clk_base.specs.declared.event.Turn.TheVariants as turn
use Rattle.clk_base.specs.Description.{kind_of}
use Rattle.clk_base.specs.Valid.{IsValid}
use Rattle.clk_base.proofs.Valid.{field-field}
use Rattle.clk_model.specs.declared.row.ClockRow.{ClockRow}
use Rattle.clk_model.specs.Lists.{is_in}
use Rattle.clk_model.specs.State.{State, Change, ChainStep, link_in}
use Rattle.clk_model.specs.Holders.{prepared}
use Rattle.clk_model.specs.Gates.{settled}
use Rattle.clk_model.specs.Round.{wiring}
use Rattle.clk_model.specs.Chain.{clock_id}
use Rattle.clk_model.specs.Walk.{walk, changing, differs}
use Rattle.clk_model.specs.Notices.{is_veto}
use Rattle.clk_model.specs.Script.{move_of, planned}
use Rattle.clk_model.specs.Begin.{begun}
use Rattle.clk_model.specs.Step.{taken, is_end, end_of}
use Rattle.clk_model.specs.Machine.{next}
use Rattle.clk_model.specs.Tier.{is_enable_tier}
use Rattle.clk_model.specs.Wired.{IsWired}
use Rattle.clk_model.specs.Laws.Flight.{Flight, begins, goes_on, beside, plan, plan_rates, IsFront, nothing, pre_notices, abort_notices}
use Rattle.clk_model.specs.Laws.ChangesTold.{is_post_of, ChangesAreTold}
use Rattle.clk_model.specs.Laws.PlansRead.{plans}
use Rattle.clk_model.proofs.Members.{is_in_head}
use Rattle.clk_model.specs.Holders.{active}
use Rattle.clk_model.specs.Lists.{count_from}
use Rattle.clk_model.proofs.GateLaws.{length-gates_moved}
use Rattle.clk_model.proofs.NoneLaws.{none_append}
use Rattle.clk_model.proofs.TierLaws.{enable_tier_leaves_prep, beside_change}
use Rattle.clk_model.proofs.PrepToldLaws.{prep_tells}
use Rattle.clk_model.proofs.StepLaws.{step_after}
use Rattle.clk_model.proofs.FrontLaws.{front_after}
use Rattle.clk_model.proofs.BeginLaws.{walked_at, walked}
use Rattle.clk_model.proofs.FlightLaws.{IsStep, begin_is}
use Rattle.clk_model.proofs.VetoLaws.{of_change, ends_it, end_turn}
use Rattle.clk_model.proofs.ShapeLaws.{events_keep_shape}
use Rattle.clk_model.proofs.WalkLaws.{walks_list}
use Rattle.clk_model.proofs.PathLaws.{some_levels, path_cons}
use Rattle.clk_model.proofs.ArriveLaws.{wired_before}
use Rattle.clk_model.proofs.GateRateLaws.{scales_is_field}
use Rattle.clk_model.proofs.PlanGoLaws.{PlanOver}
use Rattle.clk_model.proofs.ProbeGoLaws.{Resting}
use Rattle.clk_model.proofs.BeginsLaws.{Begins, answers, gives, takes, adjusts, prepares, unprepares, notes, registers, goes_on as goes_in, begins_so}
use Rattle.clk_model.proofs.BeginSafeLaws.{resting}
use Rattle.clk_model.proofs.SafeRunLaws.{IsRunning, quietly, in_flight, IsRun, run_goes_on}
use Rattle.clk_model.proofs.RunsFedLaws.{run_of}
use Rattle.clk_model.proofs.ScriptLaws.{NoMove, none_move_of, planned_front, planned_is, is_moving, none_move}
use Rattle.clk_model.proofs.NextLaws.{going_no_end}
use Rattle.clk_model.proofs.TimeoutStepLaws.{no_gate}
use Rattle.clk_model.proofs.FollowLaws.{outcome_of, AgreesAll}
use Rattle.clk_model.proofs.FollowScriptLaws.{planned_follows, off_walk, start_agrees}
use Rattle.clk_model.proofs.FollowStepLaws.{Alike_, alike_same, numbers_after, posts}
use Rattle.clk_model.proofs.ToldLaws.{agrees_alike, settled_alike, expected, visits_of, to_come, visits_once, Telling, late, called_off, on_time}
use Rattle.clk_model.proofs.ToldStepLaws.{Following, HasNumbers, telling_step}
use Rattle.std.specs.Prelude.{slice_index}
use Rattle.clk_base.specs.declared.call.Notice.TheVariants as notice
use Rattle.clk_base.specs.Levels.{depth}
use Rattle.clk_model.specs.State.{NotifierRow}
use Rattle.clk_model.specs.Notices.{vetoes, until_veto, notifiers_of}
use Rattle.clk_model.specs.Step.{from_first}
use Rattle.clk_model.specs.Laws.Flight.{may_be_put}
use Rattle.clk_model.specs.Laws.PrepTold.{DiffersInEnables}
use Rattle.clk_model.proofs.NoneLaws.{none_map, none_flat_map, none_if}
use Rattle.clk_model.proofs.ScriptLaws.{none_planned_front, none_visit}
use Rattle.clk_model.proofs.FeedLaws.{NoFeeding}
use Rattle.clk_model.specs.Script.{visit_of}
use Rattle.clk_model.proofs.PlanGoLaws.{feeding_no_end}
use Rattle.clk_model.proofs.WalkGoLaws.{from_first_past}
use Rattle.clk_model.proofs.NextLaws.{Comes, was_put, was_own, comes_of}
use Rattle.clk_model.proofs.FlightLaws.{front_put}
use Rattle.clk_model.proofs.StepLaws.{IsAfter}
use Rattle.clk_model.proofs.FollowLaws.{Follows}
use Rattle.clk_model.proofs.ToldFlightLaws.{all_moves, planned_visits, PlanBegins, plan_begins}
use Rattle.clk_model.proofs.TimeoutLaws.{no_end}

-- ---- scripts

no_post : (c : ℕ) (m : Micro) → is_moving m ≡ true → is_post_of c m ≡ false
no_post c (micro.Notify kind d id old new) moves_ = absurd cc
no_post c m moves_ = refl

feeding_posts_none : (c : ℕ) → NoFeeding (is_post_of c)
feeding_posts_none c (micro.Notify kind d id old new) e = absurd cc
feeding_posts_none c m e = refl

-- no script of a plan tells that a rate has changed: the visits do
quiet_posts : (n : State) (ks : List ChainStep) (settles : List Micro) (c : ℕ) → list_any (is_post_of c) settles ≡ false → list_any (is_post_of c) (planned n ks settles).steps ≡ false
quiet_posts n ks settles c silent =
    ap (list_any (is_post_of c)) (planned_is n ks settles)
    ∙ none_append (is_post_of c) (planned_front n ks settles) (micro.End ∷ [])
    (none_append (is_post_of c) (pre_notices n ks) (cond (list_any is_veto (pre_notices n ks)) (abort_notices n ks) (walked n ks ++ settles))
    (none_flat_map (is_post_of c) (λ x. until_veto (plan_rates n ks) x (notifiers_of n.notifiers x)) (changing n.order (wiring n) ks) (λ x. before x (notifiers_of n.notifiers x)))
    (none_if (is_post_of c) (list_any is_veto (pre_notices n ks)) (abort_notices n ks) (walked n ks ++ settles)
    (none_flat_map (is_post_of c) (λ x. _) (changing n.order (wiring n) ks)
    (λ x. none_map (is_post_of c) (λ (r : NotifierRow). micro.Notify notice.Abort (clock_id x) r.id (slice_index (plan_rates n ks).before x) (slice_index (plan_rates n ks).outcome x)) (notifiers_of n.notifiers x) (λ r. refl)))
    (none_append (is_post_of c) (walked n ks) settles
    (none_flat_map (is_post_of c) (walked_at n ks) (walk n.order (wiring n) ks)
    (λ x. none_append (is_post_of c) (move_of n.defs n.clocks (prepared n) ks x) (visit_of n.defs n.clocks ks x)
    (none_move_of (is_post_of c) n.defs n.clocks (prepared n) ks x (all_moves (NoMove (is_post_of c) n.defs n.clocks (prepared n) x) ks (λ k same p at. none_move (is_post_of c) n x p (no_post c))))
    (none_visit (is_post_of c) n.defs n.clocks ks x (feeding_posts_none c) refl)))
    silent))) refl where
      before : (x : ℕ) (ns : List NotifierRow) → list_any (is_post_of c) (until_veto (plan_rates n ks) x ns) ≡ false
      before x [] = refl
      before x (r ∷ ns) = none_if (is_post_of c) (vetoes r.policy (slice_index (plan_rates n ks).outcome x)) [] (until_veto (plan_rates n ks) x ns) refl (before x ns)

-- no visit stands behind the end
none_behind_end : (n : State) (ks : List ChainStep) (settles : List Micro) (c : ℕ) → list_any is_end settles ≡ false → list_any (visits_of c) (from_first is_end (planned n ks settles).steps) ≡ false
none_behind_end n ks settles c none =
    ap (λ (ms : List Micro). list_any (visits_of c) (from_first is_end ms)) (planned_is n ks settles)
    ∙ ap (list_any (visits_of c))
    (from_first_past is_end (planned_front n ks settles) (micro.End ∷ [])
    (none_planned_front is_end n ks settles (λ kind x id old new. refl)
    (λ x. none_move_of is_end n.defs n.clocks (prepared n) ks x (all_moves (NoMove is_end n.defs n.clocks (prepared n) x) ks (λ k same p at. none_move is_end n x p no_end))) (λ x. none_visit is_end n.defs n.clocks ks x feeding_no_end refl) none))

abbrev Behind : ℕ → Change → Type 0
Behind c k = (k.timed_out ≡ true) ⊎ (list_any (visits_of c) (from_first is_end k.left) ≡ false)

behind_step : (c : ℕ) (k j : Change) (m : Micro) → IsAfter m (taken k) j → Comes k.front k.left m → is_end m ≡ false → Behind c k → Behind c j
behind_step c k j m is comes going (inl late_) = elim is.left [
  | inl same ↦ inl (same.1 ∙ late_)
  | inr timed ↦ inl timed.2
]
behind_step c k j m is comes going (inr none) = elim is.left [
  | inl same ↦ inr (ap (λ (ms : List Micro). list_any (visits_of c) (from_first is_end ms)) same.0 ∙ by_place comes)
  | inr timed ↦ inl timed.2
] where
  by_place : Comes k.front k.left m → list_any (visits_of c) (from_first is_end (taken k).left) ≡ false
  by_place (was_put at put left) = ap (λ (ms : List Micro). list_any (visits_of c) (from_first is_end ms)) left ∙ none
  by_place (was_own empty left) =
      sym (ap (λ (b : Bool). list_any (visits_of c) (if b then m ∷ (taken k).left else from_first is_end (taken k).left)) going)
      ∙ ap (λ (ms : List Micro). list_any (visits_of c) (from_first is_end ms)) (sym left) ∙ none

-- a clock that the notices before a change are for is visited, and its rate changes
changing_is : (n : State) (base : ℕ) (ks : List ChainStep) (c : ℕ) → PlanOver n base ks → is_in c (changing n.order (wiring n) ks) ≡ true
    → (is_in c (walk n.order (wiring n) ks) ≡ true) × (differs (wiring n) ks c ≡ true)
changing_is n base ks c over m =
    let lists = walks_list (length n.regs) n.order (wiring n) base ks over.fit.wired over.order over.leads in
    let both = (lists.1.listed c).0 m in (
      both.0,
      both.1 c
          (ap (is_in c) (path_cons (link_in (outcome_of n ks).clocks) depth c some_levels) ∙ is_in_head c _)
          (sym (lists.0.listed c) ∙ both.0),
    )

-- ---- on its way

record IsTold (q : State) (ps : List ChainStep) (c : ℕ) (s : State) (made : List Micro) : Type 0 where
  n : State
  base : ℕ
  ks : List ChainStep
  plan_ : Following n base ks c
  hears : expected n ks c ≡ expected q ps c
  run : IsRun s
  now : Change
  at : s.change ≡ Some now
  front : IsFront now
  numbers : HasNumbers n ks s now
  telling : Telling n ks c s now made
  behind : Behind c now

told_steps : (q : State) (ps : List ChainStep) (c : ℕ) (s t : State) (d : ℕ) (m : Micro) (answer : Option Bool) (made : List Micro) → IsTold q ps c s made → next s d (event.Step m answer) ≡ Some (t, turn.Going)
    → IsTold q ps c t (made ++ m ∷ [])
unfolding settled
told_steps q ps c s t d m answer made is step =
    let k : Change = is.now in
    let of = of_change s t d m answer turn.Going k is.at step in
    let run_t = run_goes_on s t d (event.Step m answer) turn.Going is.run step in
    let after = step_after s (taken k) answer m of.answered in
    let going = going_no_end s (taken k) answer m of.answered in
    let same = numbers_after s (taken k) answer m after.0 going after.1 in
    record {
      n = is.n;
      base = is.base;
      ks = is.ks;
      plan_ = is.plan_;
      hears = is.hears;
      run = run_t;
      now = after.0;
      at = sym (ap (λ (u : State). u.change) of.state) ∙ after.1;
      front = front_after s k after.0 answer m is.front of.first of.answered after.1;
      numbers = record {
        chain = after.2.chain ∙ is.numbers.chain;
        before = same.before ∙ is.numbers.before;
        outcome = same.outcome ∙ is.numbers.outcome;
        notifiers = sym (ap (λ (u : State). u.notifiers) of.state) ∙ same.notifiers ∙ is.numbers.notifiers;
      };
      telling = telling_step is.n is.base is.ks c s t d m answer k after.0 made is.plan_ of is.run.wired run_t.wired (events_keep_shape s t d (event.Step m answer) turn.Going step) is.front is.numbers after.2 after.1 is.telling;
      behind = behind_step c k after.0 m after.2 (comes_of k.front k.left m of.first (front_put k is.front)) going is.behind;
    }

told_beside : (q : State) (ps : List ChainStep) (c : ℕ) (s t : State) (other : ℕ) (e : Event) (x : Turn) (made : List Micro) → is_enable_tier e ≡ true → IsTold q ps c s made → next s other e ≡ Some (t, x)
    → IsTold q ps c t made
told_beside q ps c s t other e x made tier is step = record {
  n = is.n;
  base = is.base;
  ks = is.ks;
  plan_ = is.plan_;
  hears = is.hears;
  run = run_goes_on s t other e x is.run step;
  now = is.now;
  at = beside_change s t other e x tier step ∙ is.at;
  front = is.front;
  numbers = record { chain = is.numbers.chain; before = is.numbers.before; outcome = is.numbers.outcome; notifiers = tells.notifiers ∙ is.numbers.notifiers };
  telling = by_telling is.telling;
  behind = is.behind;
} where
  tells : DiffersInEnables s t
  tells = prep_tells s t is.run.wired.valid (enable_tier_leaves_prep s t other e x tier step)

  alike : Alike_ s t
  alike = record {
    defs = tells.defs;
    link = λ a. ap (λ (rows : List (ClockRow)). link_in rows a) tells.clocks;
    scale = λ a f at.
        let own = scales_is_field (kind_of s.defs a) f at in
        tells.fields a 0 f (field-field (kind_of s.defs a) f own) (no_gate s.defs a f own);
  }

  by_telling : Telling is.n is.ks c s is.now made → Telling is.n is.ks c t is.now made
  by_telling (late e') = late e'
  by_telling (called_off e') = called_off e'
  by_telling (on_time e' way) = on_time e' (record {
    done = way.done;
    agrees = record { defs = tells.defs ∙ way.agrees.defs; size = tells.words ∙ way.agrees.size; each = λ a. agrees_alike is.n is.ks s t (way.done a) a way.agrees.defs alike (way.agrees.each a) };
    follows = way.follows;
    total = way.total;
    once = way.once;
    quiet_ = way.quiet_;
    planned_ = way.planned_;
  })

-- ---- beginnings

abbrev chain_of : State → List ChainStep
chain_of s = option_map_or (λ k. k.chain) s.change []

told_begins : (q s : State) (d : ℕ) (what : Sleeping) (c : ℕ) → IsRun q → plans what ≡ true → next q d (event.Begin what) ≡ Some (s, turn.Going) → is_in c (changing q.order (wiring q) (plan q d what)) ≡ true
    → IsTold q (plan q d what) c s []
unfolding settled
told_begins q s d what c run plans_ step m = by_case (begun q d what) (begins_so q d what) start.2 start.1 m where
  start : (q.change ≡ None) × (record (settled q (begun q d what).0) { spent = q.spent + 1 } ≡ s) × ((begun q d what).1 ≡ turn.Going)
  start = begin_is q s d what turn.Going step

  run_s : IsRun s
  run_s = run_goes_on q s d (event.Begin what) turn.Going run step

  rest : Resting q
  rest = by_running run.running_ where
    by_running : IsRunning q → Resting q
    by_running (quietly e at_rest) = resting q at_rest run.keeps
    by_running (in_flight goes) = let no : Some goes.change ≡ None = sym goes.at ∙ start.0 in absurd cc

  goes_ : (n : State) (k : Change) → PlanBegins q n k → record (settled q (record n { change = Some k })) { spent = q.spent + 1 } ≡ s → is_in c (changing q.order (wiring q) k.chain) ≡ true → IsTold q k.chain c s []
  goes_ n k is state mem = record {
    n = n;
    base = is.base;
    ks = k.chain;
    plan_ = record { over = is.over; differs_ = listed.1 };
    hears = is.hears c;
    run = run_s;
    now = k;
    at = sym (ap (λ (v : State). v.change) state);
    front = nothing is.front;
    numbers = record { chain = refl; before = is.before; outcome = is.outcome_is; notifiers = sym (ap (λ (v : State). v.notifiers) state) };
    telling = by_veto (list_any is_veto (pre_notices n k.chain)) refl;
    behind = inr (ap (λ (ms : List Micro). list_any (visits_of c) (from_first is_end ms)) is.left ∙ none_behind_end n k.chain is.settles c is.ends);
  } where
    u : State
    u = record n { change = Some k }

    valid_u : IsValid (length u.regs) u.defs
    valid_u = (wired_before q u (subst (λ (v : State). IsWired (length v.regs) (wiring v)) (sym state) run_s.wired)).valid

    listed : (is_in c (walk n.order (wiring n) k.chain) ≡ true) × (differs (wiring n) k.chain c ≡ true)
    listed = changing_is n is.base k.chain c is.over (ap (is_in c) is.changes ∙ mem)

    agrees : AgreesAll n k.chain (off_walk n k.chain) n
    agrees = start_agrees n is.base k.chain is.over

    agrees_u : AgreesAll n k.chain (off_walk n k.chain) (record (settled q u) { spent = q.spent + 1 })
    agrees_u = record {
      defs = refl;
      size = length-gates_moved u.defs (active q) (active u) (count_from 0 (length u.defs)) u.regs;
      each = λ a.
          agrees_alike n k.chain u (record (settled q u) { spent = q.spent + 1 }) (off_walk n k.chain a) a refl (settled_alike q u (q.spent + 1) (settled q u).steps valid_u)
          (agrees_alike n k.chain n u (off_walk n k.chain a) a refl (alike_same n u refl refl refl) (agrees.each a));
    }

    by_veto : (v : Bool) → list_any is_veto (pre_notices n k.chain) ≡ v → Telling n k.chain c s k []
    by_veto true e = called_off (is.vetoed ∙ e)
    by_veto false e =
        let seen = planned_visits n is.base k.chain is.settles c is.over e listed.0 (is.silent c).0 in
        on_time is.on_time_ (record {
          done = off_walk n k.chain;
          agrees = subst (λ (v : State). AgreesAll n k.chain (off_walk n k.chain) v) state agrees_u;
          follows = subst (λ (ms : List Micro). Follows n k.chain (off_walk n k.chain) ms) (sym is.left) (planned_follows n is.base k.chain is.settles is.over is.calm);
          total =
              ap (λ (ms : List Micro). posts c ms ++ to_come n k.chain c k.left) is.front
              ∙ ap (to_come n k.chain c) is.left
              ∙ ap (λ (b : Bool). if b then expected n k.chain c else []) seen.0;
          once = ap (visits_once c) is.left ∙ seen.1;
          quiet_ = ap (list_any (is_post_of c)) is.left ∙ quiet_posts n k.chain is.settles c (is.silent c).1;
          planned_ = is.missed_;
        })

  by_case : (y : State × Turn) → Begins q d what y → y.1 ≡ turn.Going → record (settled q y.0) { spent = q.spent + 1 } ≡ s → is_in c (changing q.order (wiring q) (chain_of y.0)) ≡ true
      → IsTold q (chain_of y.0) c s []
  by_case y (goes_in n k starts_) going state mem = goes_ n k (plan_begins q n d what k rest plans_ starts_) state mem
  by_case y (answers r) going state mem = absurd cc
  by_case y (gives x root) going state mem = absurd cc
  by_case y (takes number row at idle) going state mem = absurd cc
  by_case y (adjusts number old new r adjusted) going state mem = absurd cc
  by_case y (prepares number row at calm_) going state mem = absurd cc
  by_case y (unprepares number row at gives_up) going state mem = absurd cc
  by_case y (notes notifiers r) going state mem = absurd cc
  by_case y (registers x free calm_) going state mem = absurd cc

told_of : (q : State) (d : ℕ) (what : Sleeping) (c : ℕ) → IsRun q → plans what ≡ true → is_in c (changing q.order (wiring q) (plan q d what)) ≡ true → {s : State} {made : List Micro} → Flight q d what s made
    → IsTold q (plan q d what) c s made
told_of q d what c run plans_ m {s = s} (begins step) = told_begins q s d what c run plans_ step m
told_of q d what c run plans_ m {s = t} (goes_on {s = s} {made = made} x answer flight step) = told_steps q (plan q d what) c s t d x answer made (told_of q d what c run plans_ m flight) step
told_of q d what c run plans_ m {s = t} {made = made} (beside {s = s} {x = x} other e tier flight step) = told_beside q (plan q d what) c s t other e x made tier (told_of q d what c run plans_ m flight) step

-- ---- the end

-- a call that went well was neither called off nor timed out
pub went_well : (s : State) (k : Change) → (end_of s k).1 ≡ turn.Done reply.Fine → (k.vetoed ≡ false) × (k.timed_out ≡ false)
went_well s k e = both k.vetoed k.timed_out e where
  both : (v b : Bool) → turn.Done (if v then reply.Refused errno.EBUSY else if b then reply.Refused errno.ETIMEDOUT else reply.Fine) ≡ turn.Done reply.Fine → (v ≡ false) × (b ≡ false)
  both false false f = (refl, refl)
  both true b f = absurd cc
  both false true f = absurd cc

pub changes_are_told : ChangesAreTold
changes_are_told defs regs ignore_unused credits before q s t d what made m answer valid plans_ replayed flight step c mem = by_telling is.telling where
  run : IsRun q
  run = subst (λ (v : State). IsRun v) replayed (run_of defs regs ignore_unused credits before valid)

  is : IsTold q (plan q d what) c s made
  is = told_of q d what c run plans_ mem flight

  k : Change
  k = is.now

  of : IsStep s t d m answer (turn.Done reply.Fine) k
  of = of_change s t d m answer (turn.Done reply.Fine) k is.at step

  end_ : m ≡ micro.End
  end_ = ends_it s (taken k) answer m reply.Fine of.answered

  well : (k.vetoed ≡ false) × (k.timed_out ≡ false)
  well = went_well s (taken k) (sym (end_turn s (taken k) answer m end_) ∙ of.answered)

  -- nothing is left to be told
  ended : Comes k.front k.left m → Behind c k → (k.front ≡ []) × (list_any (visits_of c) k.left ≡ false)
  ended (was_put at put left) none = let no : false ≡ true = ap may_be_put (sym end_) ∙ put in absurd cc
  ended (was_own empty left) (inl late_) = let no : true ≡ false = sym late_ ∙ well.1 in absurd cc
  ended (was_own empty left) (inr none) =
      let whole : k.left ≡ micro.End ∷ (taken k).left = left ∙ ap (λ (x : Micro). x ∷ (taken k).left) end_ in
      (empty, ap (list_any (visits_of c)) whole ∙ ap (λ (ms : List Micro). list_any (visits_of c) (from_first is_end ms)) (sym whole) ∙ none)

  by_telling : Telling is.n is.ks c s k made → filter (is_post_of c) made ≡ expected q (plan q d what) c
  by_telling (late e) = let no : true ≡ false = sym e ∙ well.1 in absurd cc
  by_telling (called_off e) = let no : true ≡ false = sym e ∙ well.0 in absurd cc
  by_telling (on_time e way) =
      let last = ended (comes_of k.front k.left m of.first (front_put k is.front)) is.behind in
      sym (append-nil (posts c made))
      ∙ ap (λ (b : Bool). posts c made ++ (if b then expected is.n is.ks c else [])) (sym last.1)
      ∙ ap (λ (ms : List Micro). posts c made ++ (posts c ms ++ to_come is.n is.ks c k.left)) (sym last.0)
      ∙ way.total ∙ is.hears
