-- What the script of a plan whose moves can be made says of a change that goes on with it.
use Rattle.std.proofs.Common.{◌≡◌, ◌⊎◌, inl, inr, ℕ, ◌+◌, ◌&&◌, ◌||◌, ◌++◌, not, Bool, true, false, cond, List, [], ◌∷◌, Option, Some, None, refl, sym, ap, ◌∙◌, map, filter, nat_eq, append_assoc}
use Rattle.std.specs.Prelude.{sum_by, slice_index, is_some, length, nat_lt}
use Rattle.std.specs.List.{AllByRecursion, list_all, list_any}
use Rattle.std.specs.Option.{option_map_or}
use Rattle.std.proofs.lemmas.Bool.{and_from}
use Rattle.clk_base.specs.declared.call.Micro.{Micro}
use Rattle.clk_base.specs.declared.call.Micro.TheVariants as micro
use Rattle.clk_base.specs.declared.call.Sleeping.{Sleeping}
use Rattle.clk_base.specs.Description.{kind_of, parents_of}
use Rattle.clk_model.specs.Chain.{clock_id, place_of}
use Rattle.clk_model.specs.Kinds.{mux_field}
use Rattle.clk_model.specs.Lists.{is_in}
use Rattle.clk_model.specs.Notices.{is_veto}
use Rattle.clk_model.specs.Prep.{is_sweep}
use Rattle.clk_model.specs.Script.{feed, unfeed, is_raise, move_of, runs_for, fed_step, visit_of}
use Rattle.clk_model.specs.State.{ChainStep, registered, link_in}
use Rattle.clk_model.specs.Tree.{rooted}
use Rattle.clk_model.proofs.Members.{both_left, both_right, or_right}
use Rattle.clk_flight.specs.LeftOver as flights
use Rattle.clk_flight.proofs.WeighLaws.{same_sum}
use Rattle.clk_tree.specs.declared.plan.Plan.{Plan}
use Rattle.clk_tree.specs.Plans.{ClockRate}
use Rattle.clk_tree.specs.TreeState.{TreeState}
use Rattle.notifiers.specs.declared.notifier.Notifier.{Notifier}
use Rattle.change_walk.specs.declared.changes.Changed.{Changed}
use Rattle.change_walk.specs.Given.{settles}
use Rattle.change_walk.specs.Steps.{steps_for, visits}
use Rattle.change_walk.specs.Tellings as tellings
use Rattle.change_walk.specs.Weights.{step_weight}
use Rattle.core_parts.specs.Told.{told_clocks}
use Rattle.core_parts.specs.Course.{tells_all}
use Rattle.core_parts.specs.InFlight.{can_link, changes_rate, holds_clocks, is_near, is_prepare, is_probe, is_unprepare, links_clocks, may_lower, may_make, may_raise, probes, is_script}
use Rattle.core_parts.specs.Movable.{can_get, can_go, can_go_along}
use Rattle.core_parts.specs.Listed.{rows_from}
use Rattle.core_parts.specs.Reparenting.{is_candidate}
use Rattle.core_parts.proofs.NotifierRows.{rows_count}
use Rattle.core_parts.proofs.StepsInFlight.{changes_plain}
use Rattle.core_parts.proofs.ScriptSteps.{all_both, all_mapped, IsMoved, notices_before, notices_off, behind_notices, body_of, body_all, script_calm, script_before, FeedPasses, VisitPasses, runs_for_is, HeldPass, move_all, settles_all, all_three, place_below, unseen, unseen_first, told_of, visit_told, moves_all, before_all, off_all}

-- ---- the script of a plan whose moves can be made

module _ (t : TreeState) (prepared : ℕ → Bool) (lists : List (List Notifier)) (plan : Plan) (changed : List Changed) (can : can_go_along plan.set_parent t.defs t.clocks plan.chain ≡ true)
    (there : AllByRecursion (λ r. registered t.clocks r.clock ≡ true) plan.rates) where
  -- what a call may make of what keeps a registered clock running
  feeds_may : (what : Sleeping) → changes_rate what ≡ true → (x : ℕ) → registered t.clocks x ≡ true → FeedPasses (may_make what (registered t.clocks)) x
  feeds_may what changes x here = record {
    feeds =
        and_from (may_raise what && is_near what (registered t.clocks) x) _ (and_from (may_raise what) (is_near what (registered t.clocks) x) raises (ap (λ (b : Bool). b || probes what x) here))
        (and_from (holds_clocks what && registered t.clocks x) _ held (and_from (holds_clocks what && registered t.clocks x) true held refl));
    lets =
        and_from (holds_clocks what && registered t.clocks x) _ held
        (and_from (holds_clocks what && registered t.clocks x) _ held
        (and_from (may_lower what && registered t.clocks x) true (and_from (may_lower what) (registered t.clocks x) lowers here) refl));
  } where
    raises : may_raise what ≡ true
    raises = ap (λ (b : Bool). b || is_probe what || is_sweep what) (or_right (is_prepare what) (changes_rate what) changes)

    lowers : may_lower what ≡ true
    lowers = ap (λ (b : Bool). b || is_sweep what) (or_right (is_unprepare what) (changes_rate what) changes)

    held : (holds_clocks what && registered t.clocks x) ≡ true
    held = and_from (holds_clocks what) (registered t.clocks x) (ap (λ (b : Bool). b || is_probe what || is_sweep what) changes) here

  -- and of a move
  moved_may : (what : Sleeping) → changes_rate what ≡ true → ((c p : ℕ) → link_in t.clocks c ≡ Some p → (registered t.clocks c ≡ true) × (registered t.clocks p ≡ true))
      → (c p : ℕ) → IsMoved t.defs t.clocks c p → HeldPass (may_make what (registered t.clocks)) t.clocks c p
  moved_may what changes linked c p is = record {
    new = feeds_may what changes p
        (both_left (registered t.clocks p) _ (both_right (is_some (mux_field (kind_of t.defs c)) && is_in p (parents_of t.defs c)) (rooted t.defs t.clocks p) is.candidate));
    own = feeds_may what changes c (linked c is.from is.link).0;
    old = λ o at. feeds_may what changes o (linked c o at).1;
  }

  -- a new link is between registered clocks
  relinked_may : (what : Sleeping) → changes_rate what ≡ true → ((c p : ℕ) → link_in t.clocks c ≡ Some p → (registered t.clocks c ≡ true) × (registered t.clocks p ≡ true))
      → (c p : ℕ) → IsMoved t.defs t.clocks c p → (links_clocks what && (registered t.clocks c && registered t.clocks p)) ≡ true
  relinked_may what changes linked c p is =
      and_from (links_clocks what) (registered t.clocks c && registered t.clocks p) (ap (λ (b : Bool). b || is_probe what) changes)
      (and_from (registered t.clocks c) (registered t.clocks p) (linked c is.from is.link).0
      (both_left (registered t.clocks p) _ (both_right (is_some (mux_field (kind_of t.defs c)) && is_in p (parents_of t.defs c)) (rooted t.defs t.clocks p) is.candidate)))

  -- the clock that settles is registered
  settled_there : (k : ChainStep) (ls : List ChainStep) → plan.set_parent ≡ true → plan.chain ≡ k ∷ ls → ((c p : ℕ) → link_in t.clocks c ≡ Some p → registered t.clocks c ≡ true) → registered t.clocks k.clock ≡ true
  settled_there k ls sets at linked = by k.parent refl where
    first : can_go true t.defs t.clocks k ≡ true
    first =
        both_left (can_go true t.defs t.clocks k) (can_go_along true t.defs t.clocks ls)
        (sym (ap (λ (b : Bool). can_go_along b t.defs t.clocks plan.chain) sets ∙ ap (λ (ks : List ChainStep). can_go_along true t.defs t.clocks ks) at) ∙ can)

    from : (p : ℕ) (o : Option ℕ) → link_in t.clocks k.clock ≡ o → option_map_or (λ x. nat_eq x p || is_candidate t.defs t.clocks k.clock p) o false ≡ true → registered t.clocks k.clock ≡ true
    from p None at' e = absurd cc
    from p (Some x) at' e = linked k.clock x at'

    by : (o : Option ℕ) → k.parent ≡ o → registered t.clocks k.clock ≡ true
    by None at' = let no : false ≡ true = sym (ap (λ (o : Option ℕ). option_map_or (can_get t.defs t.clocks k.clock) o false) at') ∙ first in absurd cc
    by (Some p) at' = from p (link_in t.clocks k.clock) refl (sym (ap (λ (o : Option ℕ). option_map_or (can_get t.defs t.clocks k.clock) o false) at') ∙ first)

  -- it is a script of the call
  visits_script : (what : Sleeping) → changes_rate what ≡ true → ((c p : ℕ) → link_in t.clocks c ≡ Some p → (registered t.clocks c ≡ true) × (registered t.clocks p ≡ true)) → (rates : List ClockRate) → AllByRecursion (λ r. registered t.clocks r.clock ≡ true) rates
      → is_script what (registered t.clocks) (visits t.defs t.clocks prepared plan.chain rates ++ (settles plan.set_parent plan.chain ++ micro.End ∷ [])) ≡ true
  visits_script what changes linked [] all =
      script_calm what (registered t.clocks) (settles plan.set_parent plan.chain) (micro.End ∷ []) (changes_plain what changes)
      (settles_all (λ m. may_make what (registered t.clocks) m && not (is_raise m)) plan.set_parent plan.chain
      (λ k ls sets at. ap (λ (b : Bool). b && true) (and_from (links_clocks what) (registered t.clocks k.clock) (ap (λ (b : Bool). b || is_probe what) changes) (settled_there k ls sets at (λ c p at. (linked c p at).0))))) refl
  visits_script what changes linked (r ∷ rates) all =
      ap (is_script what there_)
      (append_assoc (moved ++ visit_of t.defs t.clocks plan.chain r.clock) (visits t.defs t.clocks prepared plan.chain rates) rest_
      ∙ append_assoc moved (visit_of t.defs t.clocks plan.chain r.clock) after)
      ∙ by (visits_script what changes linked rates all.1) (runs_for t.defs t.clocks plan.chain r.clock)
      (λ x runs. feeds_may what changes x (runs_there x (runs_for_is t.defs t.clocks plan.chain r.clock x runs))) where
        there_ : ℕ → Bool
        there_ = registered t.clocks

        moved : List Micro
        moved = move_of t.defs t.clocks prepared plan.chain r.clock

        rest_ : List Micro
        rest_ = settles plan.set_parent plan.chain ++ micro.End ∷ []

        after : List Micro
        after = visits t.defs t.clocks prepared plan.chain rates ++ rest_

        runs_there : (x : ℕ) → (x ≡ r.clock) ⊎ (link_in t.clocks r.clock ≡ Some x) → registered t.clocks x ≡ true
        runs_there x (inl same) = ap (registered t.clocks) same ∙ all.0
        runs_there x (inr link) = (linked r.clock x link).1

        moves_may : list_all (may_make what there_) moved ≡ true
        moves_may =
            moves_all (may_make what there_) plan.set_parent t.defs t.clocks prepared
            (λ c p is. move_all (may_make what there_) t.defs t.clocks prepared c p (relinked_may what changes linked c p is) changes (moved_may what changes linked c p is)) r.clock plan.chain can

        visited : (tail : List Micro) → is_script what there_ tail ≡ true → is_script what there_ (micro.Visit (clock_id r.clock) ∷ tail) ≡ true
        visited tail more = and_from (changes_rate what && registered t.clocks r.clock) (is_script what there_ tail) (and_from (changes_rate what) (registered t.clocks r.clock) changes all.0) more

        calm : (x : ℕ) → list_all (may_make what there_) (unfeed x) ≡ true → list_all (λ m. may_make what there_ m && not (is_raise m)) (unfeed x) ≡ true
        calm x e =
            three (may_make what there_ (micro.DropEnable (clock_id x))) (may_make what there_ (micro.DropPrepare (clock_id x))) (may_make what there_ (micro.Lower (clock_id x))) e where
              three : (a b c : Bool) → (a && (b && (c && true))) ≡ true → ((a && true) && ((b && true) && ((c && true) && true))) ≡ true
              three true true true e = refl
              three true true false e = absurd cc
              three true false c e = absurd cc
              three false b c e = absurd cc

        by : is_script what there_ after ≡ true → (o : Option ℕ) → ((x : ℕ) → o ≡ Some x → FeedPasses (may_make what there_) x) → is_script what there_ (moved ++ (fed_step o (micro.Visit (clock_id r.clock)) ++ after)) ≡ true
        by later None fed = script_before what there_ moved (micro.Visit (clock_id r.clock) ∷ after) changes moves_may refl (visited after later)
        by later (Some x) fed =
            ap (λ (ms : List Micro). is_script what there_ (moved ++ ms)) (append_assoc (feed x) (micro.Visit (clock_id r.clock) ∷ unfeed x) after)
            ∙ ap (is_script what there_) (sym (append_assoc moved (feed x) (micro.Visit (clock_id r.clock) ∷ (unfeed x ++ after))))
            ∙ script_before what there_ (moved ++ feed x) (micro.Visit (clock_id r.clock) ∷ (unfeed x ++ after)) changes
            (all_both (may_make what there_) moved (feed x) moves_may (fed x refl).feeds) refl
            (visited (unfeed x ++ after) (script_calm what there_ (unfeed x) after (changes_plain what changes) (calm x (fed x refl).lets) later))

  pub script_made : (what : Sleeping) → changes_rate what ≡ true → ((c p : ℕ) → link_in t.clocks c ≡ Some p → (registered t.clocks c ≡ true) × (registered t.clocks p ≡ true)) → is_script what (registered t.clocks) (steps_for t prepared lists plan changed) ≡ true
  script_made what changes linked =
      ap (is_script what (registered t.clocks)) (append_assoc (notices_before lists changed) (behind_notices t prepared lists plan changed vetoed) (micro.End ∷ []))
      ∙ script_calm what (registered t.clocks) (notices_before lists changed) (behind_notices t prepared lists plan changed vetoed ++ micro.End ∷ []) (changes_plain what changes)
      (all_mapped calm (λ x. tellings.tell_before x (tellings.notifiers_at lists x)) changed (λ x. before_all calm (λ kind c id old new. ap (λ (b : Bool). b && true) changes) x (tellings.notifiers_at lists x)))
      (by vetoed) where
        vetoed : Bool
        vetoed = list_any is_veto (notices_before lists changed)

        calm : Micro → Bool
        calm m = may_make what (registered t.clocks) m && not (is_raise m)

        off : list_all calm (notices_off lists changed) ≡ true
        off = all_mapped calm (λ x. tellings.tell_off x (tellings.notifiers_at lists x)) changed (λ x. off_all calm (λ kind c id old new. ap (λ (b : Bool). b && true) changes) x (tellings.notifiers_at lists x))

        by : (v : Bool) → is_script what (registered t.clocks) (behind_notices t prepared lists plan changed v ++ micro.End ∷ []) ≡ true
        by true = script_calm what (registered t.clocks) (notices_off lists changed) (micro.End ∷ []) (changes_plain what changes) off refl
        by false =
            ap (is_script what (registered t.clocks)) (append_assoc (visits t.defs t.clocks prepared plan.chain plan.rates) (settles plan.set_parent plan.chain) (micro.End ∷ []))
            ∙ visits_script what changes linked plan.rates there

  -- its links can be made
  pub links_made : list_all (can_link t.defs t.clocks) (steps_for t prepared lists plan changed) ≡ true
  links_made = all_both (can_link t.defs t.clocks) (body_of t prepared lists plan changed) (micro.End ∷ []) (body_all (can_link t.defs t.clocks) t prepared lists plan changed can (record {
    tells = λ kind c id old new. refl;
    moved = λ c p is. move_all (can_link t.defs t.clocks) t.defs t.clocks prepared c p (is_possible c p is) (selects c p is) (record { new = record { feeds = refl; lets = refl }; own = record { feeds = refl; lets = refl }; old = λ o at. record { feeds = refl; lets = refl } });
    seen = each_seen plan.rates;
    settled = settles_all (can_link t.defs t.clocks) plan.set_parent plan.chain (λ k ls sets at. refl);
  })) refl where
    each_seen : (rates : List ClockRate) → AllByRecursion (λ r. VisitPasses (can_link t.defs t.clocks) t.defs t.clocks plan.chain r.clock) rates
    each_seen [] = tt
    each_seen (r ∷ rates) = (record { own = refl; fed = λ x runs. record { feeds = refl; lets = refl } }, each_seen rates)

    is_mux : (c p : ℕ) → IsMoved t.defs t.clocks c p → is_some (mux_field (kind_of t.defs c)) ≡ true
    is_mux c p is = both_left (is_some (mux_field (kind_of t.defs c))) (is_in p (parents_of t.defs c)) (both_left (is_some (mux_field (kind_of t.defs c)) && is_in p (parents_of t.defs c)) (rooted t.defs t.clocks p) is.candidate)

    is_possible : (c p : ℕ) → IsMoved t.defs t.clocks c p → is_in p (parents_of t.defs c) ≡ true
    is_possible c p is = both_right (is_some (mux_field (kind_of t.defs c))) (is_in p (parents_of t.defs c)) (both_left (is_some (mux_field (kind_of t.defs c)) && is_in p (parents_of t.defs c)) (rooted t.defs t.clocks p) is.candidate)

    has_link : (c p : ℕ) → IsMoved t.defs t.clocks c p → is_some (link_in t.clocks c) ≡ true
    has_link c p is = ap (λ (o : Option ℕ). is_some o) is.link

    selects : (c p : ℕ) → IsMoved t.defs t.clocks c p → can_link t.defs t.clocks (micro.WriteMux (clock_id c) (place_of t.defs c p)) ≡ true
    selects c p is =
        all_three (is_some (mux_field (kind_of t.defs c))) (is_some (link_in t.clocks c)) (nat_lt (place_of t.defs c p) (length (parents_of t.defs c))) (is_mux c p is) (has_link c p is)
        (place_below p (parents_of t.defs c) (is_possible c p is))

  -- the clocks that it visits are told
  visits_told : (count : ℕ → ℕ) (before : List ℕ) (rates : List ClockRate)
      → tells_all count (visits t.defs t.clocks prepared plan.chain rates ++ (settles plan.set_parent plan.chain ++ micro.End ∷ [])) (told_clocks count before rates) ≡ true
  visits_told count before [] =
      unseen_first count (settles plan.set_parent plan.chain) (micro.End ∷ []) [] (settles_all unseen plan.set_parent plan.chain (λ k ls sets at. refl))
  visits_told count before (r ∷ rates) =
      ap (λ (ms : List Micro). tells_all count ms (told_clocks count before (r ∷ rates)))
      (append_assoc (moved ++ visit_of t.defs t.clocks plan.chain r.clock) (visits t.defs t.clocks prepared plan.chain rates) rest_
      ∙ append_assoc moved (visit_of t.defs t.clocks plan.chain r.clock) after)
      ∙ unseen_first count moved (visit_of t.defs t.clocks plan.chain r.clock ++ after) (told_clocks count before (r ∷ rates))
      (moves_all unseen plan.set_parent t.defs t.clocks prepared (λ c p is. move_all unseen t.defs t.clocks prepared c p refl refl
      (record { new = record { feeds = refl; lets = refl }; own = record { feeds = refl; lets = refl }; old = λ o at. record { feeds = refl; lets = refl } })) r.clock plan.chain can)
      ∙ by (visits_told count before rates) (runs_for t.defs t.clocks plan.chain r.clock) where
        moved : List Micro
        moved = move_of t.defs t.clocks prepared plan.chain r.clock

        rest_ : List Micro
        rest_ = settles plan.set_parent plan.chain ++ micro.End ∷ []

        after : List Micro
        after = visits t.defs t.clocks prepared plan.chain rates ++ rest_

        by : tells_all count after (told_clocks count before rates) ≡ true → (o : Option ℕ) → tells_all count (fed_step o (micro.Visit (clock_id r.clock)) ++ after) (told_clocks count before (r ∷ rates)) ≡ true
        by later None = visit_told count before r rates after later
        by later (Some x) =
            ap (λ (ms : List Micro). tells_all count ms (told_clocks count before (r ∷ rates))) (append_assoc (feed x) (micro.Visit (clock_id r.clock) ∷ unfeed x) after)
            ∙ unseen_first count (feed x) (micro.Visit (clock_id r.clock) ∷ (unfeed x ++ after)) (told_clocks count before (r ∷ rates)) refl
            ∙ visit_told count before r rates (unfeed x ++ after) (unseen_first count (unfeed x) after (told_clocks count before rates) refl ∙ later)

  pub tells_made : (count : ℕ → ℕ) (before : List ℕ) → tells_all count (steps_for t prepared lists plan changed) (told_clocks count before plan.rates) ≡ true
  tells_made count before =
      ap (λ (ms : List Micro). tells_all count ms (told_clocks count before plan.rates)) (append_assoc (notices_before lists changed) (behind_notices t prepared lists plan changed vetoed) (micro.End ∷ []))
      ∙ unseen_first count (notices_before lists changed) (behind_notices t prepared lists plan changed vetoed ++ micro.End ∷ []) (told_clocks count before plan.rates)
      (all_mapped unseen (λ x. tellings.tell_before x (tellings.notifiers_at lists x)) changed (λ x. before_all unseen (λ kind c id old new. refl) x (tellings.notifiers_at lists x)))
      ∙ by vetoed where
        vetoed : Bool
        vetoed = list_any is_veto (notices_before lists changed)

        off : list_all unseen (notices_off lists changed) ≡ true
        off = all_mapped unseen (λ x. tellings.tell_off x (tellings.notifiers_at lists x)) changed (λ x. off_all unseen (λ kind c id old new. refl) x (tellings.notifiers_at lists x))

        by : (v : Bool) → tells_all count (behind_notices t prepared lists plan changed v ++ micro.End ∷ []) (told_clocks count before plan.rates) ≡ true
        by true = unseen_first count (notices_off lists changed) (micro.End ∷ []) (told_clocks count before plan.rates) off
        by false =
            ap (λ (ms : List Micro). tells_all count ms (told_clocks count before plan.rates)) (append_assoc (visits t.defs t.clocks prepared plan.chain plan.rates) (settles plan.set_parent plan.chain) (micro.End ∷ []))
            ∙ visits_told count before plan.rates

-- ---- its rates and weights

-- what holds of the rates of a walk holds of the clocks that are told
pub told_all : (count : ℕ → ℕ) (before was will : List ℕ) (rates : List ClockRate) → AllByRecursion (λ r. (slice_index before r.clock ≡ slice_index was r.clock) × (r.rate ≡ slice_index will r.clock)) rates
    → AllByRecursion (λ n. (n.before ≡ slice_index was n.clock.0) × (n.after ≡ slice_index will n.clock.0)) (told_clocks count before rates)
told_all count before was will [] all = tt
told_all count before was will (r ∷ rates) all = by (nat_eq (count r.clock) 0) (told_all count before was will rates all.1) where
  left : List ClockRate
  left = filter (λ q. not (nat_eq (count q.clock) 0)) rates

  by : (t : Bool) → AllByRecursion (λ n. (n.before ≡ slice_index was n.clock.0) × (n.after ≡ slice_index will n.clock.0)) (map (told_of before) left)
      → AllByRecursion (λ n. (n.before ≡ slice_index was n.clock.0) × (n.after ≡ slice_index will n.clock.0)) (map (told_of before) (cond (not t) (r ∷ left) left))
  by true rest = rest
  by false rest = (all.0, rest)

-- over the notifiers of chains, one behind the other
pub weighs_rows : (chains : List (List Notifier)) (plls_ : ℕ) (ms : List Micro) → sum_by (flights.step_weight (rows_from 0 chains) plls_) ms ≡ sum_by (step_weight plls_ chains) ms
weighs_rows chains plls_ ms = same_sum (flights.step_weight (rows_from 0 chains) plls_) (step_weight plls_ chains) ms same where
  same : (m : Micro) → flights.step_weight (rows_from 0 chains) plls_ m ≡ step_weight plls_ chains m
  same (micro.Visit c) = ap (λ (n : ℕ). 1 + n) (rows_count chains c.0)
  same _ = refl
