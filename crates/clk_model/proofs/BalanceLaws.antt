-- Laws on scripts whose holds come in blocks.
use Rattle.std.proofs.Common.{◌≡◌, ℕ, ◌&&◌, ◌||◌, Bool, true, false, cond, List, [], ◌∷◌, ◌++◌, Option, Some, None, refl, sym, ap, subst, ◌∙◌, map, arith, nat_eq}
use Rattle.std.specs.Prelude.{flat_map, filter}
use Rattle.std.specs.List.{list_any}
use Rattle.std.specs.Option.{option_map_or}
use Rattle.std.proofs.lemmas.Bool.Decides.{nat_tests}
use Rattle.clk_base.specs.Description.{Description}
use Rattle.clk_base.specs.declared.call.Sleeping.{Sleeping}
use Rattle.clk_base.specs.declared.call.Micro.{Micro}
use Rattle.clk_base.specs.declared.call.Micro.TheVariants as micro
use Rattle.clk_base.specs.declared.event.Event.TheVariants as event
use Rattle.clk_base.specs.declared.event.Turn.TheVariants as turn
use Rattle.clk_model.specs.declared.row.ClockRow.{ClockRow}
use Rattle.clk_model.specs.Lists.{is_in, none_twice}
use Rattle.clk_model.specs.State.{State, ChainStep, link_in}
use Rattle.clk_model.specs.Holders.{prepared}
use Rattle.clk_model.specs.Round.{wiring}
use Rattle.clk_model.specs.Chain.{clock_id, moves, place_of}
use Rattle.clk_model.specs.Walk.{walk}
use Rattle.clk_model.specs.Notices.{is_veto}
use Rattle.clk_model.specs.Script.{move, move_of, planned, sweep_script}
use Rattle.clk_model.specs.Step.{passed_over}
use Rattle.clk_model.specs.Machine.{next}
use Rattle.clk_model.specs.Laws.Flight.{Flight, begins, goes_on, beside, pre_notices, abort_notices}
use Rattle.clk_model.proofs.Members.{same_from_test, or_left, or_right, not_either}
use Rattle.clk_model.proofs.NoneLaws.{none_append, none_flat_map, none_if, none_front, none_rest}
use Rattle.clk_model.proofs.BeginLaws.{walked_at, walked, sweep_has_no}
use Rattle.clk_model.proofs.VetoLaws.{is_other, pre_are_notices, abort_are_notices}
use Rattle.clk_model.proofs.HoldSteps.{relinks}
use Rattle.clk_model.proofs.BalancedScripts.{relinks_once}
use Rattle.clk_model.specs.Script.{unfeed, runs_for, visit_of}
use Rattle.clk_base.specs.Flags.{runs_parent}
use Rattle.clk_model.proofs.FeedLaws.{NoFeeding, none_fed}
use Rattle.clk_model.proofs.OnceLaws.{once_head}
use Rattle.std.proofs.lemmas.List.{append-nil}

-- ---- moves

pub no_holds_pass : (p : ℕ) (o : Option ℕ) → passed_over p o [] ≡ []
no_holds_pass p None = refl
no_holds_pass p (Some o) = refl

pub other_way : (c p : ℕ) → nat_eq c p ≡ false → nat_eq p c ≡ false
other_way c p e = grind (arith, nat_tests)

-- ---- plans

-- no clock of a plan gets itself for its parent
abbrev pub none_below_itself : List ChainStep → Type 0
none_below_itself [] = Unit {0}
none_below_itself (k ∷ ks) = ((p : ℕ) → k.parent ≡ Some p → nat_eq k.clock p ≡ false) × none_below_itself ks

-- ---- no clock is relinked twice

pub relinks_append : (xs ys : List Micro) → relinks_once xs → relinks_once ys → ((c : ℕ) → list_any (relinks c) xs ≡ true → list_any (relinks c) ys ≡ false) → relinks_once (xs ++ ys)
relinks_append [] ys f g apart = g
relinks_append (m ∷ xs) ys f g apart = (
  λ c e. none_append (relinks c) xs ys (f.0 c e) (apart c (or_left (relinks c m) (list_any (relinks c) xs) e)),
  relinks_append xs ys f.1 g (λ c e. apart c (or_right (relinks c m) (list_any (relinks c) xs) e)),
)

-- steps that relink no clock
pub once_none : (ms : List Micro) → ((c : ℕ) → list_any (relinks c) ms ≡ false) → relinks_once ms
once_none [] none = tt
once_none (m ∷ ms) none = (λ c e. none_rest (relinks c) m ms (none c), once_none ms (λ c. none_rest (relinks c) m ms (none c)))

notices_relink_none : (c : ℕ) (ms : List Micro) → list_any is_other ms ≡ false → list_any (relinks c) ms ≡ false
notices_relink_none c [] none = refl
notices_relink_none c (m ∷ ms) none = none_both (relinks c m) (list_any (relinks c) ms) (one m (none_front is_other m ms none)) (notices_relink_none c ms (none_rest is_other m ms none)) where
  one : (m : Micro) → is_other m ≡ false → relinks c m ≡ false
  one (micro.Notify kind d id old new) e = refl
  one _ e = absurd cc

  none_both : (a b : Bool) → a ≡ false → b ≡ false → (a || b) ≡ false
  none_both a b e f = ap (λ (t : Bool). t || b) e ∙ f

no_relink : (m : Micro) (ms : List Micro) → ((c : ℕ) → relinks c m ≡ false) → relinks_once ms → relinks_once (m ∷ ms)
no_relink m ms none once = (λ c e. absurd (clash c e), once) where
  clash : (c : ℕ) → relinks c m ≡ true → ⊥
  clash c e = let no : true ≡ false = sym e ∙ none c in cc

-- steps of moves that aren't links relink nothing
lets_relink_none : (d : ℕ) (l : Option ℕ) → list_any (relinks d) (option_map_or unfeed l []) ≡ false
lets_relink_none d None = refl
lets_relink_none d (Some o) = refl

more_relink_none : (c d : ℕ) (l : Option ℕ) → list_any (relinks d) (option_map_or unfeed l [] ++ unfeed c) ≡ false
more_relink_none c d None = refl
more_relink_none c d (Some o) = refl

-- a list with one link is one that relinks once
one_link : (front ms : List Micro) (c p : ℕ) → ((d : ℕ) → list_any (relinks d) front ≡ false) → ((d : ℕ) → list_any (relinks d) ms ≡ false) → relinks_once (front ++ micro.Relink (clock_id c) (clock_id p) ∷ ms)
one_link [] ms c p none calm = ((λ d e. calm d), once_none ms calm)
one_link (m ∷ front) ms c p none calm = no_relink m _ (λ d. none_front (relinks d) m front (none d)) (one_link front ms c p (λ d. none_rest (relinks d) m front (none d)) calm)

move_once : (defs : Description) (clocks : List ClockRow) (held : ℕ → Bool) (c p : ℕ) → relinks_once (move defs clocks held c p)
move_once defs clocks held c p =
    either (held c) _ _
    (one_link (micro.Raise (clock_id p) ∷ micro.HoldPrepare (clock_id p) ∷ micro.HoldEnable (clock_id p) ∷ micro.HoldEnable (clock_id c) ∷ [])
    (micro.WriteMux (clock_id c) (place_of defs c p) ∷ micro.DropEnable (clock_id c) ∷ option_map_or unfeed (link_in clocks c) []) c p (λ d. refl) (λ d. lets_relink_none d (link_in clocks c)))
    (either (runs_parent defs c) _ _
    (one_link (micro.Raise (clock_id c) ∷ micro.Raise (clock_id p) ∷ micro.HoldPrepare (clock_id c) ∷ micro.HoldEnable (clock_id c) ∷ micro.HoldPrepare (clock_id p) ∷ micro.HoldEnable (clock_id p) ∷ [])
    (micro.WriteMux (clock_id c) (place_of defs c p) ∷ option_map_or unfeed (link_in clocks c) [] ++ unfeed c) c p (λ d. refl) (λ d. more_relink_none c d (link_in clocks c)))
    (one_link [] (micro.WriteMux (clock_id c) (place_of defs c p) ∷ []) c p (λ d. refl) (λ d. refl))) where
      either : (t : Bool) (xs ys : List Micro) → relinks_once xs → relinks_once ys → relinks_once (cond t xs ys)
      either true xs ys e f = e
      either false xs ys e f = f

-- a move relinks its own clock alone
move_of_its_own : (defs : Description) (clocks : List ClockRow) (held : ℕ → Bool) (c p d : ℕ) → nat_eq c d ≡ false → list_any (relinks d) (move defs clocks held c p) ≡ false
move_of_its_own defs clocks held c p d other =
    none_if (relinks d) (held c) _ _ (own _ (lets_relink_none d (link_in clocks c)))
    (none_if (relinks d) (runs_parent defs c) _ _ (own _ (more_relink_none c d (link_in clocks c))) (own _ refl)) where
      own : (b : Bool) → b ≡ false → (nat_eq c d || b) ≡ false
      own b e = ap (λ (t : Bool). t || b) other ∙ e

feeding_links_none : (d : ℕ) → NoFeeding (relinks d)
feeding_links_none d (micro.Relink c p) e = absurd cc
feeding_links_none d (micro.Register c) e = absurd cc
feeding_links_none d m e = refl

pub sweep_relinks_none : (q : State) (d : ℕ) → list_any (relinks d) (sweep_script q) ≡ false
sweep_relinks_none q d = sweep_has_no (relinks d) q (feeding_links_none d) (λ c. refl) (λ c. refl) refl

visit_links_none : (s : State) (ks : List ChainStep) (c d : ℕ) → list_any (relinks d) (visit_of s.defs s.clocks ks c) ≡ false
visit_links_none s ks c d = none_fed (relinks d) (runs_for s.defs s.clocks ks c) (micro.Visit (clock_id c)) (feeding_links_none d) refl

-- what a plan does at a clock of its walk relinks that clock alone
moves_of_its_own : (defs : Description) (clocks : List ClockRow) (held : ℕ → Bool) (ks : List ChainStep) (c d : ℕ) → nat_eq c d ≡ false → list_any (relinks d) (move_of defs clocks held ks c) ≡ false
moves_of_its_own defs clocks held ks c d other = none_flat_map (relinks d) _ (filter _ ks) (λ k. one k.parent) where
  one : (o : Option ℕ) → list_any (relinks d) (option_map_or (move defs clocks held c) o []) ≡ false
  one None = refl
  one (Some p) = move_of_its_own defs clocks held c p d other

-- the clocks of a plan
abbrev pub clocks_in : List ChainStep → List ℕ
clocks_in ks = map (λ k. k.clock) ks

none_of_it : (defs : Description) (clocks : List ClockRow) (held : ℕ → Bool) (ks : List ChainStep) (c : ℕ) → is_in c (clocks_in ks) ≡ false → move_of defs clocks held ks c ≡ []
none_of_it defs clocks held [] c none = refl
none_of_it defs clocks held (k ∷ ks) c none =
    let both = not_either (nat_eq k.clock c) (is_in c (clocks_in ks)) none in
    ap (λ (b : Bool). flat_map (λ j. option_map_or (move defs clocks held c) j.parent [])
    (cond (b && moves clocks k) (k ∷ filter (λ j. nat_eq j.clock c && moves clocks j) ks) (filter (λ j. nat_eq j.clock c && moves clocks j) ks))) both.0
    ∙ none_of_it defs clocks held ks c both.1

moves_once : (defs : Description) (clocks : List ClockRow) (held : ℕ → Bool) (ks : List ChainStep) (c : ℕ) → none_twice (clocks_in ks) ≡ true → relinks_once (move_of defs clocks held ks c)
moves_once defs clocks held [] c distinct = tt
moves_once defs clocks held (k ∷ ks) c distinct = by_test (nat_eq k.clock c) (moves clocks k) refl (moves_once defs clocks held ks c (once_head k.clock (clocks_in ks) distinct).1) where
  by_parent : (o : Option ℕ) → relinks_once (option_map_or (move defs clocks held c) o [])
  by_parent None = tt
  by_parent (Some p) = move_once defs clocks held c p

  by_test : (a b : Bool) → nat_eq k.clock c ≡ a → relinks_once (move_of defs clocks held ks c)
      → relinks_once (flat_map (λ j. option_map_or (move defs clocks held c) j.parent []) (cond (a && b) (k ∷ filter (λ j. nat_eq j.clock c && moves clocks j) ks) (filter (λ j. nat_eq j.clock c && moves clocks j) ks)))
  by_test false b e rest = rest
  by_test true false e rest = rest
  by_test true true e rest =
      let gone : move_of defs clocks held ks c ≡ [] = none_of_it defs clocks held ks c (ap (λ (x : ℕ). is_in x (clocks_in ks)) (sym (same_from_test k.clock c e)) ∙ (once_head k.clock (clocks_in ks) distinct).0) in
      subst (λ (ms : List Micro). relinks_once (option_map_or (move defs clocks held c) k.parent [] ++ ms)) (sym gone)
      (subst (λ (ms : List Micro). relinks_once ms) (sym (append-nil (option_map_or (move defs clocks held c) k.parent []))) (by_parent k.parent))

walked_of_its_own : (s : State) (ks : List ChainStep) (c d : ℕ) → nat_eq c d ≡ false → list_any (relinks d) (walked_at s ks c) ≡ false
walked_of_its_own s ks c d other = none_append (relinks d) (move_of s.defs s.clocks (prepared s) ks c) (visit_of s.defs s.clocks ks c) (moves_of_its_own s.defs s.clocks (prepared s) ks c d other) (visit_links_none s ks c d)

walked_none : (s : State) (ks : List ChainStep) (cs : List ℕ) (d : ℕ) → is_in d cs ≡ false → list_any (relinks d) (flat_map (walked_at s ks) cs) ≡ false
walked_none s ks [] d none = refl
walked_none s ks (c ∷ cs) d none =
    let both = not_either (nat_eq c d) (is_in d cs) none in
    none_append (relinks d) (walked_at s ks c) (flat_map (walked_at s ks) cs) (walked_of_its_own s ks c d both.0) (walked_none s ks cs d both.1)

walked_once : (s : State) (ks : List ChainStep) (cs : List ℕ) → none_twice (clocks_in ks) ≡ true → none_twice cs ≡ true → relinks_once (flat_map (walked_at s ks) cs)
walked_once s ks [] distinct once = tt
walked_once s ks (c ∷ cs) distinct once =
    relinks_append (walked_at s ks c) (flat_map (walked_at s ks) cs)
    (relinks_append (move_of s.defs s.clocks (prepared s) ks c) (visit_of s.defs s.clocks ks c) (moves_once s.defs s.clocks (prepared s) ks c distinct) (once_none (visit_of s.defs s.clocks ks c) (visit_links_none s ks c)) (λ d e. visit_links_none s ks c d))
    (walked_once s ks cs distinct (once_head c cs once).1)
    (λ d e. elim (nat_eq c d) as (λ b. nat_eq c d ≡ b → list_any (relinks d) (flat_map (walked_at s ks) cs) ≡ false) [
      | true ↦ λ f. walked_none s ks cs d (ap (λ (x : ℕ). is_in x cs) (sym (same_from_test c d f)) ∙ (once_head c cs once).0)
      | false ↦ λ f. let no : true ≡ false = sym e ∙ walked_of_its_own s ks c d f in absurd cc
    ] refl)

-- the script of a plan whose clocks, and whose walk, have no clock twice relinks none twice
pub planned_once : (s : State) (ks : List ChainStep) (settles : List Micro) → none_twice (clocks_in ks) ≡ true → none_twice (walk s.order (wiring s) ks) ≡ true
    → ((c : ℕ) → list_any (relinks c) settles ≡ false) → relinks_once (planned s ks settles).steps
unfolding planned
planned_once s ks settles distinct once calm =
    relinks_append (pre_notices s ks ++ cond (list_any is_veto (pre_notices s ks)) (abort_notices s ks) (walked s ks ++ settles)) (micro.End ∷ [])
    (relinks_append (pre_notices s ks) (cond (list_any is_veto (pre_notices s ks)) (abort_notices s ks) (walked s ks ++ settles))
    (once_none (pre_notices s ks) (λ c. notices_relink_none c (pre_notices s ks) (pre_are_notices s ks)))
    (either (list_any is_veto (pre_notices s ks)))
    (λ c e. let no : true ≡ false = sym e ∙ notices_relink_none c (pre_notices s ks) (pre_are_notices s ks) in absurd cc))
    (no_relink micro.End [] (λ c. refl) tt) (λ c e. refl) where
      either : (b : Bool) → relinks_once (cond b (abort_notices s ks) (walked s ks ++ settles))
      either true = once_none (abort_notices s ks) (λ c. notices_relink_none c (abort_notices s ks) (abort_are_notices s ks))
      either false = relinks_append (walked s ks) settles (walked_once s ks (walk s.order (wiring s) ks) distinct once) (once_none settles calm) (λ c e. calm c)

-- ---- calls

-- no clock of a plan gets itself for its parent, and no clock stands twice in the plan or in its walk
pub record IsPlain (q : State) (ks : List ChainStep) : Type 0 where
  pub parents : none_below_itself ks
  pub clocks : none_twice (clocks_in ks) ≡ true
  pub walked : none_twice (walk q.order (wiring q) ks) ≡ true

-- a flight has a beginning
pub began : (q : State) (d : ℕ) (what : Sleeping) {s : State} {made : List Micro} → Flight q d what s made → (first : State) × (next q d (event.Begin what) ≡ Some (first, turn.Going))
began q d what {s = s} (begins step) = (s, step)
began q d what (goes_on m answer flight step) = began q d what flight
began q d what (beside driver e tier flight step) = began q d what flight
