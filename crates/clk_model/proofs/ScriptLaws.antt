-- Laws on tests that no step of a script passes, for each script of a call and each end that a timeout leaves of it.
use Rattle.std.proofs.Common.{◌≡◌, ℕ, ◌||◌, ◌&&◌, Bool, true, false, cond, List, [], ◌∷◌, ◌++◌, Option, Some, None, refl, ap, ◌∙◌, length}
use Rattle.std.specs.Prelude.{◌==◌, filter, flat_map, slice_index}
use Rattle.std.specs.List.{list_any, AllByRecursion, list_all}
use Rattle.std.specs.Option.{option_map_or}
use Rattle.clk_base.specs.declared.call.Micro.{Micro}
use Rattle.clk_base.specs.declared.call.Micro.TheVariants as micro
use Rattle.clk_base.specs.declared.call.Notice.{Notice}
use Rattle.clk_base.specs.declared.call.Notice.TheVariants as notice
use Rattle.clk_base.specs.declared.call.Sleeping.{Sleeping}
use Rattle.clk_base.specs.declared.clock.ClockId.{ClockId}
use Rattle.clk_base.specs.Description.{Description}
use Rattle.clk_base.specs.Flags.{is_critical, runs_parent}
use Rattle.clk_model.specs.declared.row.ClockRow.{ClockRow}
use Rattle.clk_model.specs.Lists.{is_in}
use Rattle.clk_model.specs.State.{State, ChainStep, NotifierRow, link_in}
use Rattle.clk_model.specs.Holders.{prepared}
use Rattle.clk_model.specs.Round.{wiring}
use Rattle.clk_model.specs.Chain.{clock_id, moves}
use Rattle.clk_model.specs.Walk.{walk, changing}
use Rattle.clk_model.specs.Notices.{Rates, vetoes, notifiers_of, until_veto, is_veto, abort_list}
use Rattle.clk_model.specs.Script.{unfeed, runs_for, visit_of, move, move_of, planned, adoption, adoptable, adoption_order, probe_script}
use Rattle.clk_model.specs.Step.{cut_short}
use Rattle.clk_model.specs.Laws.Flight.{plan_rates, pre_notices, abort_notices}
use Rattle.clk_model.proofs.Members.{is_in_head, is_in_tail, same_from_test, both_left, both_right}
use Rattle.clk_model.proofs.NoneLaws.{none_append, none_map, none_flat_map, none_if}
use Rattle.clk_model.proofs.BeginLaws.{walked_at, walked}
use Rattle.clk_model.proofs.FeedLaws.{NoFeeding, none_fed, none_short}

-- a test that no notice passes
abbrev pub NoNotice : (Micro → Bool) → Type 0
NoNotice p = (kind : Notice) (c : ClockId) (id old new : ℕ) → p (micro.Notify kind c id old new) ≡ false

-- what a timeout leaves passes no test that the script doesn't
pub none_cut : (p : Micro → Bool) (what : Sleeping) (ms : List Micro) → list_any p ms ≡ false → list_any p (cut_short what ms) ≡ false
none_cut p what ms none = none_short p what ms none

-- nor do the steps of a list
pub none_flat_in : (p : Micro → Bool) (f : ℕ → List Micro) (xs : List ℕ) → ((x : ℕ) → is_in x xs ≡ true → list_any p (f x) ≡ false) → list_any p (flat_map f xs) ≡ false
none_flat_in p f [] each = refl
none_flat_in p f (x ∷ xs) each = none_append p (f x) (flat_map f xs) (each x (is_in_head x xs)) (none_flat_in p f xs (λ y m. each y (is_in_tail y x xs m)))

-- ---- plans

none_until_veto : (p : Micro → Bool) (rates : Rates) (c : ℕ) (ns : List NotifierRow) → NoNotice p → list_any p (until_veto rates c ns) ≡ false
none_until_veto p rates c [] none = refl
none_until_veto p rates c (n ∷ ns) none =
    both _ _ (none (notice.Pre (vetoes n.policy (slice_index rates.outcome c))) (clock_id c) n.id (slice_index rates.before c) (slice_index rates.outcome c))
    (none_if p (vetoes n.policy (slice_index rates.outcome c)) [] (until_veto rates c ns) refl (none_until_veto p rates c ns none)) where
      both : (a b : Bool) → a ≡ false → b ≡ false → (a || b) ≡ false
      both a b e f = ap (λ (t : Bool). t || b) e ∙ f

-- notices alone
pub none_pre : (p : Micro → Bool) (s : State) (ks : List ChainStep) → NoNotice p → list_any p (pre_notices s ks) ≡ false
none_pre p s ks none =
    none_flat_map p (λ c. until_veto (plan_rates s ks) c (notifiers_of s.notifiers c)) (changing s.order (wiring s) ks)
    (λ c. none_until_veto p (plan_rates s ks) c (notifiers_of s.notifiers c) none)

pub none_aborts : (p : Micro → Bool) (rates : Rates) (ns : List NotifierRow) (cs : List ℕ) → NoNotice p → list_any p (abort_list rates ns cs) ≡ false
none_aborts p rates ns cs none =
    none_flat_map p (λ c. _) cs
    (λ c. none_map p (λ (n : NotifierRow). micro.Notify notice.Abort (clock_id c) n.id (slice_index rates.before c) (slice_index rates.outcome c)) (notifiers_of ns c) (λ n. none notice.Abort (clock_id c) n.id _ _))

-- the steps that moves are made of
abbrev pub is_moving : Micro → Bool
is_moving (micro.Raise c) = true
is_moving (micro.HoldPrepare c) = true
is_moving (micro.HoldEnable c) = true
is_moving (micro.Relink c p) = true
is_moving (micro.WriteMux c place) = true
is_moving (micro.DropEnable c) = true
is_moving (micro.DropPrepare c) = true
is_moving (micro.Lower c) = true
is_moving _ = false

-- a move passes no test that none of these passes
none_moving : (p : Micro → Bool) (ms : List Micro) → ((m : Micro) → is_moving m ≡ true → p m ≡ false) → list_all is_moving ms ≡ true → list_any p ms ≡ false
none_moving p [] each all = refl
none_moving p (m ∷ ms) each all =
    let here : is_moving m ≡ true = both_left (is_moving m) (list_all is_moving ms) all in
    let rest : list_all is_moving ms ≡ true = both_right (is_moving m) (list_all is_moving ms) all in
    ap (λ (b : Bool). b || list_any p ms) (each m here) ∙ none_moving p ms each rest

-- the steps of each move
lets_are_moving : (l : Option ℕ) → list_all is_moving (option_map_or unfeed l []) ≡ true
lets_are_moving None = refl
lets_are_moving (Some o) = refl

pub moves_are_moving : (defs : Description) (clocks : List ClockRow) (prep : ℕ → Bool) (c q : ℕ) → list_all is_moving (move defs clocks prep c q) ≡ true
moves_are_moving defs clocks prep c q = either (prep c) _ _ (lets_are_moving (link_in clocks c)) (either (runs_parent defs c) _ _ (behind (link_in clocks c)) refl) where
  either : (t : Bool) (xs ys : List Micro) → list_all is_moving xs ≡ true → list_all is_moving ys ≡ true → list_all is_moving (cond t xs ys) ≡ true
  either true xs ys e f = e
  either false xs ys e f = f

  behind : (l : Option ℕ) → list_all is_moving (option_map_or unfeed l [] ++ unfeed c) ≡ true
  behind None = refl
  behind (Some o) = refl

pub none_move : (p : Micro → Bool) (s : State) (c q : ℕ) → ((m : Micro) → is_moving m ≡ true → p m ≡ false) → list_any p (move s.defs s.clocks (prepared s) c q) ≡ false
none_move p s c q each = none_moving p (move s.defs s.clocks (prepared s) c q) each (moves_are_moving s.defs s.clocks (prepared s) c q)

-- the visit of a clock passes no test that neither a visit nor the steps that feed it pass
pub none_visit : (p : Micro → Bool) (defs : Description) (clocks : List ClockRow) (ks : List ChainStep) (c : ℕ) → NoFeeding p → p (micro.Visit (clock_id c)) ≡ false → list_any p (visit_of defs clocks ks c) ≡ false
none_visit p defs clocks ks c feeding own = none_fed p (runs_for defs clocks ks c) (micro.Visit (clock_id c)) feeding own

-- a move of a clock by a step of the chain passes no test
abbrev pub NoMove : (Micro → Bool) → Description → List ClockRow → (ℕ → Bool) → ℕ → ChainStep → Type 0
NoMove p defs clocks prep c k = k.clock ≡ c → (q : ℕ) → k.parent ≡ Some q → list_any p (move defs clocks prep c q) ≡ false

pub none_move_of : (p : Micro → Bool) (defs : Description) (clocks : List ClockRow) (prep : ℕ → Bool) (ks : List ChainStep) (c : ℕ)
    → AllByRecursion (NoMove p defs clocks prep c) ks → list_any p (move_of defs clocks prep ks c) ≡ false
none_move_of p defs clocks prep [] c each = refl
none_move_of p defs clocks prep (k ∷ ks) c each = one ((k.clock == c) && moves clocks k) refl (none_move_of p defs clocks prep ks c each.1) where
  steps : ChainStep → List Micro
  steps l = option_map_or (move defs clocks prep c) l.parent []

  own : (o : Option ℕ) → k.parent ≡ o → k.clock ≡ c → list_any p (option_map_or (move defs clocks prep c) o []) ≡ false
  own None at same = refl
  own (Some q) at same = each.0 same q at

  one : (t : Bool) → ((k.clock == c) && moves clocks k) ≡ t → list_any p (move_of defs clocks prep ks c) ≡ false
      → list_any p (flat_map (λ l. option_map_or (move defs clocks prep c) l.parent []) (cond t (k ∷ filter (λ l. (l.clock == c) && moves clocks l) ks) (filter (λ l. (l.clock == c) && moves clocks l) ks))) ≡ false
  one true e rest =
      none_append p (option_map_or (move defs clocks prep c) k.parent []) (move_of defs clocks prep ks c) (own k.parent refl (same_from_test k.clock c (both_left (k.clock == c) (moves clocks k) e))) rest
  one false e rest = rest

-- the script of a plan in front of its end
abbrev pub planned_front : State → List ChainStep → List Micro → List Micro
planned_front s ks settles = pre_notices s ks ++ cond (list_any is_veto (pre_notices s ks)) (abort_notices s ks) (walked s ks ++ settles)

pub planned_is : (s : State) (ks : List ChainStep) (settles : List Micro) → (planned s ks settles).steps ≡ planned_front s ks settles ++ micro.End ∷ []
unfolding planned
planned_is s ks settles = refl

alone : (a : Bool) → a ≡ false → (a || false) ≡ false
alone a e = ap (λ (t : Bool). t || false) e

-- it passes no test that no notice, no move, no visit and nothing behind the walk passes
pub none_planned_front : (p : Micro → Bool) (s : State) (ks : List ChainStep) (settles : List Micro) → NoNotice p → ((c : ℕ) → list_any p (move_of s.defs s.clocks (prepared s) ks c) ≡ false)
    → ((c : ℕ) → list_any p (visit_of s.defs s.clocks ks c) ≡ false) → list_any p settles ≡ false → list_any p (planned_front s ks settles) ≡ false
none_planned_front p s ks settles none moved visited settled_ =
    none_append p (pre_notices s ks) (cond (list_any is_veto (pre_notices s ks)) (abort_notices s ks) (walked s ks ++ settles)) (none_pre p s ks none)
    (none_if p (list_any is_veto (pre_notices s ks)) (abort_notices s ks) (walked s ks ++ settles) (none_aborts p (plan_rates s ks) s.notifiers (changing s.order (wiring s) ks) none)
    (none_append p (walked s ks) settles
    (none_flat_map p (walked_at s ks) (walk s.order (wiring s) ks) (λ c. none_append p (move_of s.defs s.clocks (prepared s) ks c) (visit_of s.defs s.clocks ks c) (moved c) (visited c)))
    settled_))

-- so does the whole, where the end doesn't pass
pub none_planned : (p : Micro → Bool) (s : State) (ks : List ChainStep) (settles : List Micro) → NoNotice p → ((c : ℕ) → list_any p (move_of s.defs s.clocks (prepared s) ks c) ≡ false)
    → ((c : ℕ) → list_any p (visit_of s.defs s.clocks ks c) ≡ false) → list_any p settles ≡ false → p micro.End ≡ false → list_any p (planned s ks settles).steps ≡ false
none_planned p s ks settles none moved visited settled_ ended =
    ap (list_any p) (planned_is s ks settles)
    ∙ none_append p (planned_front s ks settles) (micro.End ∷ []) (none_planned_front p s ks settles none moved visited settled_) (alone _ ended)

-- ---- registrations

-- so does that of a registration, where no raise, no registration of its clock and no adoption passes
pub none_probe : (p : Micro → Bool) (r : State) (c : ℕ) → p (micro.Raise (clock_id c)) ≡ false → p (micro.Register (clock_id c)) ≡ false
    → ((a : ℕ) → is_in a (adoption_order (length (adoptable r)) r (adoptable r)) ≡ true → list_any p (adoption r a) ≡ false) → p micro.End ≡ false → list_any p (probe_script r c) ≡ false
unfolding probe_script
none_probe p r c raised made adopted ended =
    let first : List Micro = cond (is_critical r.defs c) (micro.Raise (clock_id c) ∷ []) [] in
    let adoptions : List Micro = flat_map (adoption r) (adoption_order (length (adoptable r)) r (adoptable r)) in
    none_append p ((first ++ micro.Register (clock_id c) ∷ []) ++ adoptions) (micro.End ∷ [])
    (none_append p (first ++ micro.Register (clock_id c) ∷ []) adoptions
    (none_append p first (micro.Register (clock_id c) ∷ []) (none_if p (is_critical r.defs c) (micro.Raise (clock_id c) ∷ []) [] (alone _ raised) refl) (alone _ made))
    (none_flat_in p (adoption r) (adoption_order (length (adoptable r)) r (adoptable r)) adopted)) (alone _ ended)
