-- Steps of a script that all pass a test: the moves of a chain, its notices and visits.
use Rattle.std.proofs.Common.{◌≡◌, ◌⊎◌, ℕ, ◌+◌, ◌<◌, ◌&&◌, ◌||◌, ◌++◌, not, Bool, true, false, cond, List, [], ◌∷◌, Option, Some, None, refl, sym, ap, ◌∙◌, inl, inr, map, filter, nat_eq, arith}
use Rattle.std.specs.Prelude.{slice_index, slice_get, is_none, flat_map, length, nat_lt, if◌then◌else◌}
use Rattle.std.specs.List.{AllByRecursion, list_all, list_any, position_or_len}
use Rattle.std.specs.Option.{option_map_or}
use Rattle.std.proofs.lemmas.Bool.{and_from}
use Rattle.std.proofs.lemmas.Bool.Decides.{nat_tests}
use Rattle.std.proofs.lemmas.List.Folds.{list_all-append, list_any-append}
use Rattle.clk_base.specs.declared.call.Micro.{Micro}
use Rattle.clk_base.specs.declared.call.Micro.TheVariants as micro
use Rattle.clk_base.specs.declared.call.Notice.{Notice}
use Rattle.clk_base.specs.declared.call.Notice.TheVariants as notice
use Rattle.clk_base.specs.declared.call.Sleeping.{Sleeping}
use Rattle.clk_base.specs.declared.clock.ClockId.{ClockId}
use Rattle.clk_base.specs.Description.{Description, kind_of}
use Rattle.clk_base.specs.Flags.{runs_parent, runs_to_set}
use Rattle.clk_model.specs.declared.row.ClockRow.{ClockRow}
use Rattle.clk_model.specs.Chain.{clock_id, moves, place_of}
use Rattle.clk_model.specs.Kinds.{has_setting}
use Rattle.clk_model.specs.Lists.{is_in, same_place}
use Rattle.clk_model.specs.Notices.{is_veto, vetoes}
use Rattle.clk_model.specs.Script.{feed, unfeed, is_raise, move, move_of, runs_for, fed_step, visit_of}
use Rattle.clk_model.specs.State.{ChainStep, link_in}
use Rattle.clk_model.specs.Step.{is_end, is_visit, is_register}
use Rattle.clk_model.proofs.Members.{both_left, both_right, or_cases, or_right, same_from_test, test_same}
use Rattle.clk_tree.specs.declared.plan.Plan.{Plan}
use Rattle.clk_tree.specs.Plans.{ClockRate}
use Rattle.clk_tree.specs.TreeState.{TreeState}
use Rattle.notifiers.specs.declared.notifier.Notifier.{Notifier}
use Rattle.change_walk.specs.declared.changes.Changed.{Changed}
use Rattle.change_walk.specs.Given.{settles}
use Rattle.change_walk.specs.Steps.{visits}
use Rattle.change_walk.specs.Tellings as tellings
use Rattle.change_walk.specs.declared.changes.Changed.{Changed}
use Rattle.core_parts.specs.Told.{told_clocks}
use Rattle.core_parts.specs.Course.{behind_first, behind_visit, begins_with, tells_all, visited_by}
use Rattle.core_parts.specs.InFlight.{asks_rate, changes_rate, cuts_behind, is_probe, may_make, there_behind, is_script}
use Rattle.core_parts.specs.Movable.{can_get, can_go, can_go_along}
use Rattle.core_parts.specs.Reparenting.{is_candidate}
use Rattle.core_parts.proofs.InFlight.{there_still}
use Rattle.core_parts.proofs.StepsInFlight.{changes_plain, cut_plain, makes_plain}

-- ---- lists of steps that pass

pub all_both : (P : Micro → Bool) (xs ys : List Micro) → list_all P xs ≡ true → list_all P ys ≡ true → list_all P (xs ++ ys) ≡ true
all_both P xs ys one two = list_all-append P xs ys ∙ ap (λ (t : Bool). t && list_all P ys) one ∙ two

pub all_mapped : {X : Type 0} (P : Micro → Bool) (f : X → List Micro) (xs : List X) → ((x : X) → list_all P (f x) ≡ true) → list_all P (flat_map f xs) ≡ true
all_mapped P f [] each = refl
all_mapped P f (x ∷ xs) each = all_both P (f x) (flat_map f xs) (each x) (all_mapped P f xs each)

-- ---- what keeps a clock running

-- the steps that keep a clock running and let it go pass
pub record FeedPasses (P : Micro → Bool) (x : ℕ) : Type 0 where
  pub feeds : list_all P (feed x) ≡ true
  pub lets : list_all P (unfeed x) ≡ true

-- a visit passes, and so do the steps that keep a clock running for it
pub record VisitPasses (P : Micro → Bool) (defs : Description) (clocks : List ClockRow) (ks : List ChainStep) (c : ℕ) : Type 0 where
  pub own : P (micro.Visit (clock_id c)) ≡ true
  pub fed : (x : ℕ) → runs_for defs clocks ks c ≡ Some x → FeedPasses P x

visit_all : (P : Micro → Bool) (defs : Description) (clocks : List ClockRow) (ks : List ChainStep) (c : ℕ) → VisitPasses P defs clocks ks c → list_all P (visit_of defs clocks ks c) ≡ true
visit_all P defs clocks ks c passes = by (runs_for defs clocks ks c) passes.fed where
  by : (o : Option ℕ) → ((x : ℕ) → o ≡ Some x → FeedPasses P x) → list_all P (fed_step o (micro.Visit (clock_id c))) ≡ true
  by None fed = ap (λ (t : Bool). t && true) passes.own
  by (Some x) fed =
      all_both P (feed x) (micro.Visit (clock_id c) ∷ unfeed x) (fed x refl).feeds
      (and_from (P (micro.Visit (clock_id c))) (list_all P (unfeed x)) passes.own (fed x refl).lets)

-- the clock that runs for a visit is the visited one or its parent
pub runs_for_is : (defs : Description) (clocks : List ClockRow) (ks : List ChainStep) (c x : ℕ) → runs_for defs clocks ks c ≡ Some x → (x ≡ c) ⊎ (link_in clocks c ≡ Some x)
runs_for_is defs clocks ks c x is = by (list_any (λ k. nat_eq k.clock c) ks && has_setting (kind_of defs c)) (runs_to_set defs c) (runs_parent defs c) is where
  same_Some : (a b : ℕ) → Some a ≡ Some b → b ≡ a
  same_Some a b e = cc

  by : (planned itself parent : Bool) → (if planned then (if itself then Some c else if parent then link_in clocks c else None) else None) ≡ Some x → (x ≡ c) ⊎ (link_in clocks c ≡ Some x)
  by true true parent e = inl (same_Some c x e)
  by true false true e = inr e
  by true false false e = absurd cc
  by false itself parent e = absurd cc

-- ---- the moves of a chain

-- a clock that moves has a link, and its new parent is a candidate
pub record IsMoved (defs : Description) (clocks : List ClockRow) (c p : ℕ) : Type 0 where
  pub from : ℕ
  pub link : link_in clocks c ≡ Some from
  pub candidate : is_candidate defs clocks c p ≡ true

-- a step that can be made and moves its clock moves it so
moved_so : (defs : Description) (clocks : List ClockRow) (c p : ℕ) → can_get defs clocks c p ≡ true → not (same_place (Some p) (link_in clocks c)) ≡ true → IsMoved defs clocks c p
moved_so defs clocks c p can moving = by (link_in clocks c) refl where
  other : (x : ℕ) → link_in clocks c ≡ Some x → x ≡ p → ⊥
  other x at same =
      let no : false ≡ true =
      sym (ap (λ (u : Option ℕ). not (same_place (Some p) u)) at ∙ ap (λ (y : ℕ). not (nat_eq p y)) same ∙ ap not (test_same p)) ∙ moving in
      cc

  by : (o : Option ℕ) → link_in clocks c ≡ o → IsMoved defs clocks c p
  by None at = let no : false ≡ true = sym (ap (λ (u : Option ℕ). option_map_or (λ x. nat_eq x p || is_candidate defs clocks c p) u false) at) ∙ can in absurd cc
  by (Some x) at =
      let here : (nat_eq x p || is_candidate defs clocks c p) ≡ true = sym (ap (λ (u : Option ℕ). option_map_or (λ x. nat_eq x p || is_candidate defs clocks c p) u false) at) ∙ can in
      elim (or_cases (nat_eq x p) (is_candidate defs clocks c p) here) [
        | inl same ↦ absurd (other x at (same_from_test x p same))
        | inr may ↦ record { from = x; link = at; candidate = may }
      ]

module _ (P : Micro → Bool) (sets : Bool) (defs : Description) (clocks : List ClockRow) (prepared : ℕ → Bool)
    (each : (c p : ℕ) → IsMoved defs clocks c p → list_all P (move defs clocks prepared c p) ≡ true) where
  -- the move of a clock by one step
  abbrev by_step : ℕ → ChainStep → List Micro
  by_step c k = option_map_or (move defs clocks prepared c) k.parent []

  step_all : (c : ℕ) (k : ChainStep) → (nat_eq k.clock c && moves clocks k) ≡ true → can_go sets defs clocks k ≡ true → list_all P (by_step c k) ≡ true
  step_all c k here can = by k.parent refl where
    same : k.clock ≡ c
    same = same_from_test k.clock c (both_left (nat_eq k.clock c) (moves clocks k) here)

    by : (o : Option ℕ) → k.parent ≡ o → list_all P (option_map_or (move defs clocks prepared c) o []) ≡ true
    by None at = refl
    by (Some p) at =
        each c p (moved_so defs clocks c p
        (ap (λ (x : ℕ). can_get defs clocks x p) (sym same) ∙ sym (ap (λ (o : Option ℕ). option_map_or (can_get defs clocks k.clock) o (not sets)) at) ∙ can)
        (ap (λ (x : ℕ). not (same_place (Some p) (link_in clocks x))) (sym same) ∙ ap (λ (o : Option ℕ). not (same_place o (link_in clocks k.clock))) (sym at) ∙ both_right (nat_eq k.clock c) (moves clocks k) here))

  pub moves_all : (c : ℕ) (ks : List ChainStep) → can_go_along sets defs clocks ks ≡ true → list_all P (move_of defs clocks prepared ks c) ≡ true
  moves_all c [] all = refl
  moves_all c (k ∷ ks) all =
      by (nat_eq k.clock c && moves clocks k) refl (moves_all c ks (both_right (can_go sets defs clocks k) (can_go_along sets defs clocks ks) all)) where
        rest : List ChainStep
        rest = filter (λ k. nat_eq k.clock c && moves clocks k) ks

        by : (t : Bool) → (nat_eq k.clock c && moves clocks k) ≡ t → list_all P (flat_map (by_step c) rest) ≡ true → list_all P (flat_map (by_step c) (cond t (k ∷ rest) rest)) ≡ true
        by true here more = all_both P (by_step c k) (flat_map (by_step c) rest) (step_all c k here (both_left (can_go sets defs clocks k) (can_go_along sets defs clocks ks) all)) more
        by false here more = more

  visits_all : (ks : List ChainStep) (rates : List ClockRate) → can_go_along sets defs clocks ks ≡ true → AllByRecursion (λ r. VisitPasses P defs clocks ks r.clock) rates
      → list_all P (visits defs clocks prepared ks rates) ≡ true
  visits_all ks [] all seen = refl
  visits_all ks (r ∷ rates) all seen =
      all_both P (move_of defs clocks prepared ks r.clock ++ visit_of defs clocks ks r.clock) (visits defs clocks prepared ks rates)
      (all_both P (move_of defs clocks prepared ks r.clock) (visit_of defs clocks ks r.clock) (moves_all r.clock ks all) (visit_all P defs clocks ks r.clock seen.0))
      (visits_all ks rates all seen.1)

-- ---- notices

module _ (P : Micro → Bool) (tells : (kind : Notice) (c : ClockId) (id old new : ℕ) → P (micro.Notify kind c id old new) ≡ true) where
  pub before_all : (x : Changed) (ns : List Notifier) → list_all P (tellings.tell_before x ns) ≡ true
  before_all x [] = refl
  before_all x (n ∷ ns) = by (vetoes n.policy x.after) (before_all x ns) where
    by : (t : Bool) → list_all P (tellings.tell_before x ns) ≡ true → list_all P (tellings.notify (notice.Pre t) x n.id ∷ (if t then [] else tellings.tell_before x ns)) ≡ true
    by true rest = ap (λ (t : Bool). t && true) (tells (notice.Pre true) x.clock n.id x.before x.after)
    by false rest = ap (λ (t : Bool). t && list_all P (tellings.tell_before x ns)) (tells (notice.Pre false) x.clock n.id x.before x.after) ∙ rest

  pub off_all : (x : Changed) (ns : List Notifier) → list_all P (tellings.tell_off x ns) ≡ true
  off_all x [] = refl
  off_all x (n ∷ ns) = ap (λ (t : Bool). t && list_all P (tellings.tell_off x ns)) (tells notice.Abort x.clock n.id x.before x.after) ∙ off_all x ns

-- ---- the whole script

-- the notices before a change, and those that it is called off
abbrev pub notices_before : List (List Notifier) → List Changed → List Micro
notices_before lists changed = flat_map (λ x. tellings.tell_before x (tellings.notifiers_at lists x)) changed

abbrev pub notices_off : List (List Notifier) → List Changed → List Micro
notices_off lists changed = flat_map (λ x. tellings.tell_off x (tellings.notifiers_at lists x)) changed

-- what comes behind the notices, where one is a veto or none is
abbrev pub behind_notices : TreeState → (ℕ → Bool) → List (List Notifier) → Plan → List Changed → Bool → List Micro
behind_notices t prepared lists plan changed vetoed = if vetoed then notices_off lists changed else visits t.defs t.clocks prepared plan.chain plan.rates ++ settles plan.set_parent plan.chain

-- a script without its end
abbrev pub body_of : TreeState → (ℕ → Bool) → List (List Notifier) → Plan → List Changed → List Micro
body_of t prepared lists plan changed = notices_before lists changed ++ behind_notices t prepared lists plan changed (list_any is_veto (notices_before lists changed))

-- what each kind of its steps passes
pub record Passes (P : Micro → Bool) (t : TreeState) (prepared : ℕ → Bool) (plan : Plan) : Type 0 where
  pub tells : (kind : Notice) (c : ClockId) (id old new : ℕ) → P (micro.Notify kind c id old new) ≡ true
  pub moved : (c p : ℕ) → IsMoved t.defs t.clocks c p → list_all P (move t.defs t.clocks prepared c p) ≡ true
  pub seen : AllByRecursion (λ r. VisitPasses P t.defs t.clocks plan.chain r.clock) plan.rates
  pub settled : list_all P (settles plan.set_parent plan.chain) ≡ true

-- all of them pass
pub body_all : (P : Micro → Bool) (t : TreeState) (prepared : ℕ → Bool) (lists : List (List Notifier)) (plan : Plan) (changed : List Changed)
    → can_go_along plan.set_parent t.defs t.clocks plan.chain ≡ true → Passes P t prepared plan → list_all P (body_of t prepared lists plan changed) ≡ true
body_all P t prepared lists plan changed all passes =
    all_both P (notices_before lists changed) (behind_notices t prepared lists plan changed (list_any is_veto (notices_before lists changed)))
    (all_mapped P (λ x. tellings.tell_before x (tellings.notifiers_at lists x)) changed (λ x. before_all P passes.tells x (tellings.notifiers_at lists x)))
    (by (list_any is_veto (notices_before lists changed))) where
      by : (v : Bool) → list_all P (behind_notices t prepared lists plan changed v) ≡ true
      by true = all_mapped P (λ x. tellings.tell_off x (tellings.notifiers_at lists x)) changed (λ x. off_all P passes.tells x (tellings.notifiers_at lists x))
      by false =
          all_both P (visits t.defs t.clocks prepared plan.chain plan.rates) (settles plan.set_parent plan.chain)
          (visits_all P plan.set_parent t.defs t.clocks prepared passes.moved plan.chain plan.rates all passes.seen) passes.settled

-- ---- what its steps are

-- steps that a call may make, none of which raises, in front of a script; it registers no clock
pub script_calm : (what : Sleeping) (there : ℕ → Bool) (xs tail : List Micro) → is_probe what ≡ false → list_all (λ m. may_make what there m && not (is_raise m)) xs ≡ true → is_script what there tail ≡ true → is_script what there (xs ++ tail) ≡ true
script_calm what there [] tail none may more = more
script_calm what there (m ∷ xs) tail none may more =
    or_right (is_end m && is_none (slice_get (xs ++ tail) 0)) (cuts_behind what m (xs ++ tail) && (may_make what there m && is_script what (there_behind there m) (xs ++ tail)))
    (and_from (cuts_behind what m (xs ++ tail)) (may_make what there m && is_script what (there_behind there m) (xs ++ tail)) (cuts m plain (both_right (may_make what there m) (not (is_raise m)) first))
    (and_from (may_make what there m) (is_script what (there_behind there m) (xs ++ tail)) (both_left (may_make what there m) (not (is_raise m)) first)
    (ap (λ (test : ℕ → Bool). is_script what test (xs ++ tail)) (there_still there m plain) ∙ script_calm what there xs tail none (both_right (may_make what there m && not (is_raise m)) (list_all (λ m. may_make what there m && not (is_raise m)) xs) may) more))) where
      first : (may_make what there m && not (is_raise m)) ≡ true
      first = both_left (may_make what there m && not (is_raise m)) (list_all (λ m. may_make what there m && not (is_raise m)) xs) may

      plain : is_register m ≡ false
      plain = makes_plain what there m none (both_left (may_make what there m) (not (is_raise m)) first)

      cuts : (n : Micro) → is_register n ≡ false → not (is_raise n) ≡ true → cuts_behind what n (xs ++ tail) ≡ true
      cuts (micro.Raise x) other e = absurd cc
      cuts (micro.Register c) other e = absurd cc
      cuts _ other e = refl

-- and steps that it may make in front of one that has a visit, which a timeout leaves
pub script_before : (what : Sleeping) (there : ℕ → Bool) (xs tail : List Micro) → changes_rate what ≡ true → list_all (may_make what there) xs ≡ true → list_any is_visit tail ≡ true → is_script what there tail ≡ true → is_script what there (xs ++ tail) ≡ true
script_before what there [] tail changes may seen more = more
script_before what there (m ∷ xs) tail changes may seen more =
    or_right (is_end m && is_none (slice_get (xs ++ tail) 0)) (cuts_behind what m (xs ++ tail) && (may_make what there m && is_script what (there_behind there m) (xs ++ tail)))
    (and_from (cuts_behind what m (xs ++ tail)) (may_make what there m && is_script what (there_behind there m) (xs ++ tail))
    (cuts m plain (list_any-append is_visit xs tail ∙ or_right (list_any is_visit xs) (list_any is_visit tail) seen))
    (and_from (may_make what there m) (is_script what (there_behind there m) (xs ++ tail)) (both_left (may_make what there m) (list_all (may_make what there) xs) may)
    (ap (λ (test : ℕ → Bool). is_script what test (xs ++ tail)) (there_still there m plain)
    ∙ script_before what there xs tail changes (both_right (may_make what there m) (list_all (may_make what there) xs) may) seen more))) where
      plain : is_register m ≡ false
      plain = makes_plain what there m (changes_plain what changes) (both_left (may_make what there m) (list_all (may_make what there) xs) may)

      cuts : (n : Micro) → is_register n ≡ false → list_any is_visit (xs ++ tail) ≡ true → cuts_behind what n (xs ++ tail) ≡ true
      cuts (micro.Raise x) other e = cut_plain what (xs ++ tail) changes ∙ ap (λ (t : Bool). t || not (asks_rate what)) e
      cuts (micro.Register c) other e = absurd cc
      cuts _ other e = refl

-- the steps pass that keep a clock and its new parent running, and let them and the old one go
pub record HeldPass (P : Micro → Bool) (clocks : List ClockRow) (c p : ℕ) : Type 0 where
  pub new : FeedPasses P p
  pub own : FeedPasses P c
  pub old : (o : ℕ) → link_in clocks c ≡ Some o → FeedPasses P o

-- a move links a clock and selects its parent, and keeps them running meanwhile if the clock is prepared, or if its flags say so
pub move_all : (P : Micro → Bool) (defs : Description) (clocks : List ClockRow) (prepared : ℕ → Bool) (c p : ℕ) → P (micro.Relink (clock_id c) (clock_id p)) ≡ true → P (micro.WriteMux (clock_id c) (place_of defs c p)) ≡ true
    → HeldPass P clocks c p → list_all P (move defs clocks prepared c p) ≡ true
move_all P defs clocks prepared c p links selects pass = by (prepared c) (runs_parent defs c) where
  relinks : List Micro
  relinks = micro.Relink (clock_id c) (clock_id p) ∷ micro.WriteMux (clock_id c) (place_of defs c p) ∷ []

  relinked : list_all P relinks ≡ true
  relinked = and_from (P (micro.Relink (clock_id c) (clock_id p))) (P (micro.WriteMux (clock_id c) (place_of defs c p)) && true) links (ap (λ (b : Bool). b && true) selects)

  first : (m : Micro) (ms : List Micro) → list_all P (m ∷ ms) ≡ true → P m ≡ true
  first m ms all = both_left (P m) (list_all P ms) all

  rest : (m : Micro) (ms : List Micro) → list_all P (m ∷ ms) ≡ true → list_all P ms ≡ true
  rest m ms all = both_right (P m) (list_all P ms) all

  one : (m : Micro) → P m ≡ true → list_all P (m ∷ []) ≡ true
  one m e = ap (λ (b : Bool). b && true) e

  old : list_all P (option_map_or unfeed (link_in clocks c) []) ≡ true
  old = let_go (link_in clocks c) pass.old where
    let_go : (l : Option ℕ) → ((o : ℕ) → l ≡ Some o → FeedPasses P o) → list_all P (option_map_or unfeed l []) ≡ true
    let_go None each = refl
    let_go (Some o) each = (each o refl).lets

  holds : (x : ℕ) → FeedPasses P x → list_all P (micro.HoldPrepare (clock_id x) ∷ micro.HoldEnable (clock_id x) ∷ []) ≡ true
  holds x passes = rest (micro.Raise (clock_id x)) (micro.HoldPrepare (clock_id x) ∷ micro.HoldEnable (clock_id x) ∷ []) passes.feeds

  raises : (x : ℕ) → FeedPasses P x → P (micro.Raise (clock_id x)) ≡ true
  raises x passes = first (micro.Raise (clock_id x)) (micro.HoldPrepare (clock_id x) ∷ micro.HoldEnable (clock_id x) ∷ []) passes.feeds

  by : (held runs : Bool)
      → list_all P (if held
      then micro.Raise (clock_id p) ∷ micro.HoldPrepare (clock_id p) ∷ micro.HoldEnable (clock_id p) ∷ micro.HoldEnable (clock_id c)
      ∷ micro.Relink (clock_id c) (clock_id p) ∷ micro.WriteMux (clock_id c) (place_of defs c p) ∷ micro.DropEnable (clock_id c) ∷ option_map_or unfeed (link_in clocks c) []
      else if runs
      then micro.Raise (clock_id c) ∷ micro.Raise (clock_id p) ∷ micro.HoldPrepare (clock_id c) ∷ micro.HoldEnable (clock_id c) ∷ micro.HoldPrepare (clock_id p) ∷ micro.HoldEnable (clock_id p)
      ∷ micro.Relink (clock_id c) (clock_id p) ∷ micro.WriteMux (clock_id c) (place_of defs c p) ∷ option_map_or unfeed (link_in clocks c) [] ++ unfeed c
      else micro.Relink (clock_id c) (clock_id p) ∷ micro.WriteMux (clock_id c) (place_of defs c p) ∷ []) ≡ true
  by true runs =
      all_both P (feed p) (micro.HoldEnable (clock_id c) ∷ relinks ++ micro.DropEnable (clock_id c) ∷ option_map_or unfeed (link_in clocks c) []) pass.new.feeds
      (and_from (P (micro.HoldEnable (clock_id c))) _ (first (micro.HoldEnable (clock_id c)) [] (rest (micro.HoldPrepare (clock_id c)) (micro.HoldEnable (clock_id c) ∷ []) (holds c pass.own)))
      (all_both P relinks (micro.DropEnable (clock_id c) ∷ option_map_or unfeed (link_in clocks c) []) relinked
      (and_from (P (micro.DropEnable (clock_id c))) _ (first (micro.DropEnable (clock_id c)) (micro.DropPrepare (clock_id c) ∷ micro.Lower (clock_id c) ∷ []) pass.own.lets) old)))
  by false true =
      and_from (P (micro.Raise (clock_id c))) _ (raises c pass.own)
      (and_from (P (micro.Raise (clock_id p))) _ (raises p pass.new)
      (all_both P (micro.HoldPrepare (clock_id c) ∷ micro.HoldEnable (clock_id c) ∷ [])
      (micro.HoldPrepare (clock_id p) ∷ micro.HoldEnable (clock_id p) ∷ relinks ++ (option_map_or unfeed (link_in clocks c) [] ++ unfeed c)) (holds c pass.own)
      (all_both P (micro.HoldPrepare (clock_id p) ∷ micro.HoldEnable (clock_id p) ∷ []) (relinks ++ (option_map_or unfeed (link_in clocks c) [] ++ unfeed c)) (holds p pass.new)
      (all_both P relinks (option_map_or unfeed (link_in clocks c) [] ++ unfeed c) relinked (all_both P (option_map_or unfeed (link_in clocks c) []) (unfeed c) old pass.own.lets)))))
  by false false = relinked

-- what a change of parent settles passes where its clock does
pub settles_all : (P : Micro → Bool) (sets : Bool) (ks : List ChainStep) → ((k : ChainStep) (ls : List ChainStep) → sets ≡ true → ks ≡ k ∷ ls → P (micro.Settle (clock_id k.clock)) ≡ true) → list_all P (settles sets ks) ≡ true
settles_all P true [] each = refl
settles_all P true (k ∷ ks) each = ap (λ (t : Bool). t && true) (each k ks refl refl)
settles_all P false [] each = refl
settles_all P false (k ∷ ks) each = refl

-- what holds of each registered clock holds of those of a walk
pub each_there : (Q : ℕ → Bool) (there : ℕ → Bool) (rates : List ClockRate) → ((c : ℕ) → there c ≡ true → Q c ≡ true) → AllByRecursion (λ r. there r.clock ≡ true) rates → AllByRecursion (λ r. Q r.clock ≡ true) rates
each_there Q there [] each all = tt
each_there Q there (r ∷ rates) each all = (each r.clock all.0, each_there Q there rates each all.1)

pub all_three : (a b c : Bool) → a ≡ true → b ≡ true → c ≡ true → (a && b && c) ≡ true
all_three a b c one two three = ap (λ (t : Bool). t && b && c) one ∙ ap (λ (t : Bool). t && c) two ∙ three

-- the place of a possible parent is one of the list
place_first : (p q : ℕ) (ps : List ℕ) (t : Bool) → nat_eq q p ≡ t → (t || is_in p ps) ≡ true → (is_in p ps ≡ true → position_or_len (λ r. nat_eq r p) ps < length ps)
    → position_or_len (λ r. nat_eq r p) (q ∷ ps) < length (q ∷ ps)
place_first p q ps true e m more =
    let here : position_or_len (λ r. nat_eq r p) (q ∷ ps) ≡ 0 = ap (λ (t : Bool). cond (not t) (1 + position_or_len (λ r. nat_eq r p) ps) 0) e in omega arith
place_first p q ps false e m more =
    let later : position_or_len (λ r. nat_eq r p) (q ∷ ps) ≡ 1 + position_or_len (λ r. nat_eq r p) ps = ap (λ (t : Bool). cond (not t) (1 + position_or_len (λ r. nat_eq r p) ps) 0) e in
    let rest = more m in omega arith

place_within : (p : ℕ) (ps : List ℕ) → is_in p ps ≡ true → position_or_len (λ r. nat_eq r p) ps < length ps
place_within p [] m = absurd cc
place_within p (q ∷ ps) m = place_first p q ps (nat_eq q p) refl m (place_within p ps)

pub place_below : (p : ℕ) (ps : List ℕ) → is_in p ps ≡ true → nat_lt (position_or_len (λ r. nat_eq r p) ps) (length ps) ≡ true
place_below p ps m = less (position_or_len (λ r. nat_eq r p) ps) (length ps) (place_within p ps m) where
  less : (a b : ℕ) → a < b → nat_lt a b ≡ true
  less a b lt = grind (arith, nat_tests)

-- ---- steps that visit no clock

abbrev pub unseen : Micro → Bool
unseen m = is_none (visited_by m)

pub unseen_first : (count : ℕ → ℕ) (ms tail : List Micro) (ns : List Changed) → list_all unseen ms ≡ true → tells_all count (ms ++ tail) ns ≡ tells_all count tail ns
unseen_first count [] tail ns all = refl
unseen_first count (m ∷ ms) tail ns all = by (visited_by m) (both_left (unseen m) (list_all unseen ms) all) (unseen_first count ms tail ns (both_right (unseen m) (list_all unseen ms) all)) where
  by : (o : Option ℕ) → is_none o ≡ true → tells_all count (ms ++ tail) ns ≡ tells_all count tail ns
      → option_map_or (λ c. (nat_eq (count c) 0 || begins_with c ns) && tells_all count (ms ++ tail) (behind_visit (count c) ns)) o (tells_all count (ms ++ tail) ns) ≡ tells_all count tail ns
  by None e rest = rest
  by (Some c) e rest = absurd cc

-- a clock that is told
abbrev pub told_of : List ℕ → ClockRate → Changed
told_of before r = record { clock = clock_id r.clock; before = slice_index before r.clock; after = r.rate }

-- a visited clock with notifiers is the first of those that are told
pub visit_told : (count : ℕ → ℕ) (before : List ℕ) (r : ClockRate) (rates : List ClockRate) (rest : List Micro) → tells_all count rest (told_clocks count before rates) ≡ true
    → tells_all count (micro.Visit (clock_id r.clock) ∷ rest) (told_clocks count before (r ∷ rates)) ≡ true
visit_told count before r rates rest more = by (nat_eq (count r.clock) 0) more where
  left : List ClockRate
  left = filter (λ q. not (nat_eq (count q.clock) 0)) rates

  by : (t : Bool) → tells_all count rest (map (told_of before) left) ≡ true
      → ((t || begins_with r.clock (map (told_of before) (cond (not t) (r ∷ left) left)))
      && tells_all count rest (if t then map (told_of before) (cond (not t) (r ∷ left) left) else behind_first (map (told_of before) (cond (not t) (r ∷ left) left)))) ≡ true
  by true all = all
  by false all = ap (λ (t : Bool). t && tells_all count rest (map (told_of before) left)) (test_same r.clock) ∙ all
