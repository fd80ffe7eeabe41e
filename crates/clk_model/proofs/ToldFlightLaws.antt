-- Laws on changes that go well: each clock that the notices before the change were for is told of it once.
use Rattle.std.proofs.Common.{◌≡◌, ℕ, Bool, true, false, not, cond, List, [], ◌∷◌, ◌++◌, Some, refl, sym, ap, ◌∙◌, inl, inr, length, Option, None}
use Rattle.std.proofs.lemmas.List.{append_assoc}
use Rattle.std.proofs.lemmas.List.Folds.{list_any-append}
use Rattle.std.specs.Prelude.{◌==◌, flat_map, if◌then◌else◌}
use Rattle.std.specs.List.{list_any, AllByRecursion}
use Rattle.clk_base.specs.declared.call.Micro.{Micro}
use Rattle.clk_base.specs.declared.call.Micro.TheVariants as micro
use Rattle.clk_base.specs.declared.call.Sleeping.{Sleeping}
use Rattle.clk_model.specs.declared.row.HandleRow.{HandleRow}
use Rattle.clk_model.specs.Lists.{is_in, none_twice}
use Rattle.clk_model.specs.State.{State, Change, ChainStep, handle_at}
use Rattle.clk_model.specs.Holders.{prepared}
use Rattle.clk_model.specs.Round.{wiring, rate_in}
use Rattle.clk_model.specs.Chain.{clock_id, outcome}
use Rattle.clk_model.specs.Walk.{walk, changing, rates_in}
use Rattle.clk_model.specs.Notices.{is_veto}
use Rattle.clk_model.specs.Script.{move_of, planned}
use Rattle.clk_model.specs.Step.{is_end}
use Rattle.clk_model.specs.Laws.Flight.{pre_notices, abort_notices}
use Rattle.clk_model.specs.Laws.ChangesTold.{is_post_of, is_pre}
use Rattle.clk_model.specs.Laws.PlansRead.{plans}
use Rattle.clk_model.proofs.Members.{is_in_cases, same_from_test, test_same, not_either, or_left, or_right}
use Rattle.clk_model.proofs.NoneLaws.{none_append}
use Rattle.clk_model.specs.Script.{fed_step, runs_for, visit_of}
use Rattle.clk_model.proofs.FeedLaws.{NoFeeding}
use Rattle.clk_model.proofs.ScriptLaws.{none_visit}
use Rattle.clk_model.proofs.OnceLaws.{once_head}
use Rattle.clk_model.proofs.BeginLaws.{walked_at, walked}
use Rattle.clk_model.proofs.PlanLaws.{chains_lead}
use Rattle.clk_model.proofs.WalkLaws.{walks_list}
use Rattle.clk_model.proofs.PlanRootLaws.{IsRooted, plan_rooted}
use Rattle.clk_model.proofs.PlanGoLaws.{PlanOver}
use Rattle.clk_model.proofs.ProbeGoLaws.{Resting}
use Rattle.clk_model.proofs.BeginsLaws.{IsPlannedOver, over_itself, over_range, Starts, raising_handle, lowering_handle, planning, reparents, probing, sweeping}
use Rattle.clk_model.proofs.BeginSafeLaws.{handle_rooted, planned_over}
use Rattle.clk_model.proofs.SafeRunLaws.{one_step_leads, one_step_rooted, plan_over}
use Rattle.clk_model.proofs.ScriptLaws.{NoMove, none_flat_in, none_move_of, none_pre, planned_is, is_moving, none_move}
use Rattle.clk_model.proofs.FollowLaws.{outcome_of, stirs}
use Rattle.clk_model.proofs.ToldLaws.{expected, visits_of, visits_once}

-- ---- a script visits each clock of its walk once

no_visit : (c : ℕ) (m : Micro) → is_moving m ≡ true → visits_of c m ≡ false
no_visit c (micro.Visit d) moves_ = absurd cc
no_visit c m moves_ = refl

pub all_moves : (P : ChainStep → Type 0) (ks : List ChainStep) → ((k : ChainStep) → P k) → AllByRecursion P ks
all_moves P [] each = tt
all_moves P (k ∷ ks) each = (each k, all_moves P ks each)

moves_no_visit : (n : State) (ks : List ChainStep) (c x : ℕ) → list_any (visits_of c) (move_of n.defs n.clocks (prepared n) ks x) ≡ false
moves_no_visit n ks c x = none_move_of (visits_of c) n.defs n.clocks (prepared n) ks x (all_moves (NoMove (visits_of c) n.defs n.clocks (prepared n) x) ks (λ k same p at. none_move (visits_of c) n x p (no_visit c)))

visits_past : (c : ℕ) (xs ys : List Micro) → list_any (visits_of c) xs ≡ false → visits_once c (xs ++ ys) ≡ visits_once c ys
visits_past c [] ys none = refl
visits_past c (x ∷ xs) ys none =
    let parts = not_either (visits_of c x) (list_any (visits_of c) xs) none in
    ap (λ (b : Bool). if b then not (list_any (visits_of c) (xs ++ ys)) else visits_once c (xs ++ ys)) parts.0 ∙ visits_past c xs ys parts.1

visits_none : (c : ℕ) (xs : List Micro) → list_any (visits_of c) xs ≡ false → visits_once c xs ≡ true
visits_none c [] none = refl
visits_none c (x ∷ xs) none =
    let parts = not_either (visits_of c x) (list_any (visits_of c) xs) none in
    ap (λ (b : Bool). if b then not (list_any (visits_of c) xs) else visits_once c xs) parts.0 ∙ visits_none c xs parts.1

feeding_no_visit : (c : ℕ) → NoFeeding (visits_of c)
feeding_no_visit c (micro.Visit d) e = absurd cc
feeding_no_visit c m e = refl

-- the visits of other clocks
others_unvisited : (n : State) (ks : List ChainStep) (c : ℕ) (ws : List ℕ) → is_in c ws ≡ false → list_any (visits_of c) (flat_map (walked_at n ks) ws) ≡ false
others_unvisited n ks c ws out =
    none_flat_in (visits_of c) (walked_at n ks) ws
    (λ x m. none_append (visits_of c) (move_of n.defs n.clocks (prepared n) ks x) (visit_of n.defs n.clocks ks x) (moves_no_visit n ks c x)
    (none_visit (visits_of c) n.defs n.clocks ks x (feeding_no_visit c) (apart x m (x == c) refl))) where
      apart : (x : ℕ) → is_in x ws ≡ true → (t : Bool) → (x == c) ≡ t → t ≡ false
      apart x m true e = let no : false ≡ true = sym out ∙ ap (λ (y : ℕ). is_in y ws) (sym (same_from_test x c e)) ∙ m in absurd cc
      apart x m false e = refl

walk_once : (n : State) (ks : List ChainStep) (c : ℕ) (ws : List ℕ) (tail : List Micro) → none_twice ws ≡ true → list_any (visits_of c) tail ≡ false → visits_once c (flat_map (walked_at n ks) ws ++ tail) ≡ true
walk_once n ks c [] tail once none = visits_none c tail none
walk_once n ks c (w ∷ ws) tail once none =
    ap (visits_once c) (append_assoc (walked_at n ks w) rest tail ∙ append_assoc (move_of n.defs n.clocks (prepared n) ks w) (visit_of n.defs n.clocks ks w) (rest ++ tail))
    ∙ visits_past c (move_of n.defs n.clocks (prepared n) ks w) (visit_of n.defs n.clocks ks w ++ (rest ++ tail)) (moves_no_visit n ks c w)
    ∙ fed (runs_for n.defs n.clocks ks w)
    ∙ by_clock (w == c) refl (walk_once n ks c ws tail (once_head w ws once).1 none) where
      rest : List Micro
      rest = flat_map (walked_at n ks) ws

      fed : (o : Option ℕ) → visits_once c (fed_step o (micro.Visit (clock_id w)) ++ (rest ++ tail)) ≡ visits_once c (micro.Visit (clock_id w) ∷ (rest ++ tail))
      fed None = refl
      fed (Some x) = refl

      by_clock : (t : Bool) → (w == c) ≡ t → visits_once c (rest ++ tail) ≡ true → (if t then not (list_any (visits_of c) (rest ++ tail)) else visits_once c (rest ++ tail)) ≡ true
      by_clock false e later = later
      by_clock true e later =
          let out : is_in c ws ≡ false = ap (λ (y : ℕ). is_in y ws) (sym (same_from_test w c e)) ∙ (once_head w ws once).0 in
          ap not (none_append (visits_of c) rest tail (others_unvisited n ks c ws out) none)

walk_visits : (n : State) (ks : List ChainStep) (c : ℕ) (ws : List ℕ) → is_in c ws ≡ true → list_any (visits_of c) (flat_map (walked_at n ks) ws) ≡ true
walk_visits n ks c [] m = absurd cc
walk_visits n ks c (w ∷ ws) m =
    list_any-append (visits_of c) (walked_at n ks w) (flat_map (walked_at n ks) ws)
    ∙ elim (is_in_cases c w ws m) [
      | inr later ↦ or_right (list_any (visits_of c) (walked_at n ks w)) (list_any (visits_of c) (flat_map (walked_at n ks) ws)) (walk_visits n ks c ws later)
      | inl same ↦ or_left (list_any (visits_of c) (walked_at n ks w)) (list_any (visits_of c) (flat_map (walked_at n ks) ws))
          (list_any-append (visits_of c) (move_of n.defs n.clocks (prepared n) ks w) (visit_of n.defs n.clocks ks w)
          ∙ or_right (list_any (visits_of c) (move_of n.defs n.clocks (prepared n) ks w)) (list_any (visits_of c) (visit_of n.defs n.clocks ks w)) (fed_visits (runs_for n.defs n.clocks ks w) same))
    ] where
      fed_visits : (o : Option ℕ) → w ≡ c → list_any (visits_of c) (fed_step o (micro.Visit (clock_id w))) ≡ true
      fed_visits None same = or_left (w == c) false (ap (λ (x : ℕ). x == c) same ∙ test_same c)
      fed_visits (Some x) same = or_left (w == c) false (ap (λ (x' : ℕ). x' == c) same ∙ test_same c)

-- the script of a plan that isn't called off
pub planned_visits : (n : State) (base : ℕ) (ks : List ChainStep) (settles : List Micro) (c : ℕ) → PlanOver n base ks → list_any is_veto (pre_notices n ks) ≡ false → is_in c (walk n.order (wiring n) ks) ≡ true
    → list_any (visits_of c) settles ≡ false → (list_any (visits_of c) (planned n ks settles).steps ≡ true) × (visits_once c (planned n ks settles).steps ≡ true)
planned_visits n base ks settles c over calm m none = (
  ap (list_any (visits_of c)) shape
      ∙ list_any-append (visits_of c) pre (flat_map (walked_at n ks) ws ++ tail)
      ∙ or_right (list_any (visits_of c) pre) _
      (list_any-append (visits_of c) (flat_map (walked_at n ks) ws) tail ∙ or_left (list_any (visits_of c) (flat_map (walked_at n ks) ws)) _ (walk_visits n ks c ws m)),
  ap (visits_once c) shape ∙ visits_past c pre (flat_map (walked_at n ks) ws ++ tail) pre_none
      ∙ walk_once n ks c ws tail ((walks_list (length n.regs) n.order (wiring n) base ks over.fit.wired over.order over.leads).0).once
      (none_append (visits_of c) settles (micro.End ∷ []) none refl),
) where
  pre : List Micro
  pre = pre_notices n ks

  ws : List ℕ
  ws = walk n.order (wiring n) ks

  tail : List Micro
  tail = settles ++ micro.End ∷ []

  pre_none : list_any (visits_of c) pre ≡ false
  pre_none = none_pre (visits_of c) n ks (λ kind d id old new. refl)

  shape : (planned n ks settles).steps ≡ pre ++ (flat_map (walked_at n ks) ws ++ tail)
  shape =
      planned_is n ks settles
      ∙ ap (λ (v : Bool). (pre ++ cond v (abort_notices n ks) (walked n ks ++ settles)) ++ micro.End ∷ []) calm
      ∙ append_assoc pre (walked n ks ++ settles) (micro.End ∷ []) ∙ ap (λ (xs : List Micro). pre ++ xs) (append_assoc (walked n ks) settles (micro.End ∷ []))

-- ---- beginnings

-- what a change of rates or of a parent begins with
pub record PlanBegins (q n : State) (k : Change) : Type 0 where
  pub base : ℕ
  pub settles : List Micro
  pub ends : list_any is_end settles ≡ false
  pub over : PlanOver n base k.chain
  pub left : k.left ≡ (planned n k.chain settles).steps
  pub calm : list_any (stirs n.defs) settles ≡ false
  pub front : k.front ≡ []
  pub before : k.before ≡ rates_in (wiring n)
  pub outcome_is : k.outcome ≡ rates_in (outcome_of n k.chain)
  pub vetoed : k.vetoed ≡ list_any is_veto (pre_notices n k.chain)
  pub on_time_ : k.timed_out ≡ false
  pub missed_ : k.missed ≡ None
  pub silent : (c : ℕ) → (list_any (visits_of c) settles ≡ false) × (list_any (is_post_of c) settles ≡ false)
  pub hears : (c : ℕ) → expected n k.chain c ≡ expected q k.chain c
  pub changes : changing n.order (wiring n) k.chain ≡ changing q.order (wiring q) k.chain
  pub asks : pre_notices n k.chain ≡ pre_notices q k.chain
  pub unasking : list_any is_pre settles ≡ false

rooted_over : (s m : State) (i : ℕ) (r : HandleRow) → Resting s → IsPlannedOver s m → handle_at s.handles i ≡ Some r → IsRooted m.defs m.clocks r.clock.0
rooted_over s m i r rest over_itself f = handle_rooted s i r rest.fit f
rooted_over s m i r rest (over_range j old new adjusted) f = let is_ = handle_rooted s i r rest.fit f in record { there = is_.there; root = is_.root }

pub plan_begins : (q n : State) (d : ℕ) (what : Sleeping) (k : Change) → Resting q → plans what ≡ true → Starts q d what n k → PlanBegins q n k
unfolding planned
plan_begins q n d what k rest plans_ (raising_handle h row is at) = let no : false ≡ true = ap plans (sym is) ∙ plans_ in absurd cc
plan_begins q n d what k rest plans_ (lowering_handle h row is at gives_up) = let no : false ≡ true = ap plans (sym is) ∙ plans_ in absurd cc
plan_begins q n d what k rest plans_ (probing c is free) = let no : false ≡ true = ap plans (sym is) ∙ plans_ in absurd cc
plan_begins q n d what k rest plans_ (sweeping is) = let no : false ≡ true = ap plans (sym is) ∙ plans_ in absurd cc
plan_begins q n d what k rest plans_ (planning _ number row over x ks range planned_ at is rates) =
    let rest_n = (planned_over q n rest planned_).0 in
    let own : IsRooted n.defs n.clocks row.clock.0 = rooted_over q n number row rest planned_ at in
    let leads = (chains_lead (wiring n) over row.clock.0 x ks rest_n.keeps.ends rest_n.keeps.links is).leads in
    let steps = plan_rooted (length n.regs) (wiring n) over row.clock.0 x ks rest_n.fit.wired.valid rest_n.keeps.links (λ e p f. (rest_n.fit.sound.tree.linked e p f).1) own is in
    record {
      base = row.clock.0;
      settles = [];
      ends = refl;
      over = plan_over n row.clock.0 ks rest_n leads steps;
      left = refl;
      calm = refl;
      front = refl;
      before = refl;
      outcome_is = refl;
      vetoed = refl;
      on_time_ = refl;
      missed_ = refl;
      silent = λ c. (refl, refl);
      hears = λ c. by_state planned_ c;
      changes = by_changing planned_;
      asks = by_asking planned_;
      unasking = refl;
    } where
      by_asking : {m : State} → IsPlannedOver q m → pre_notices m ks ≡ pre_notices q ks
      by_asking over_itself = refl
      by_asking (over_range i old new adjusted) = refl

      by_state : {m : State} → IsPlannedOver q m → (c : ℕ) → expected m ks c ≡ expected q ks c
      by_state over_itself c = refl
      by_state (over_range i old new adjusted) c = refl

      by_changing : {m : State} → IsPlannedOver q m → changing m.order (wiring m) ks ≡ changing q.order (wiring q) ks
      by_changing over_itself = refl
      by_changing (over_range i old new adjusted) = refl
plan_begins q n d what k rest plans_ (reparents number row p sets at away mux m root) =
    let c : ℕ = row.clock.0 in
    let own = handle_rooted q number row rest.fit at in
    let rate_ : ℕ = rate_in (outcome (record { clock = c; rate = 0; parent = Some p } ∷ []) (wiring q)) c in
    let ks : List ChainStep = record { clock = c; rate = rate_; parent = Some p } ∷ [] in
    record {
      base = c;
      settles = micro.Settle (clock_id c) ∷ [];
      ends = refl;
      over = plan_over q c ks rest (one_step_leads q c p rate_ m) (one_step_rooted q c p rate_ m own root);
      left = refl;
      calm = refl;
      front = refl;
      before = refl;
      outcome_is = refl;
      vetoed = refl;
      on_time_ = refl;
      missed_ = refl;
      silent = λ e. (refl, refl);
      hears = λ e. refl;
      changes = refl;
      asks = refl;
      unasking = refl;
    }
