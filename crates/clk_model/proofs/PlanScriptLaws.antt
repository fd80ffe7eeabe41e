-- Laws on the scripts of plans: what they make of a tree is the outcome; and how calls that plan begin.
use Rattle.std.proofs.Common.{◌≡◌, ℕ, ◌^◌, Bool, true, false, not, ◌&&◌, cond, List, [], ◌∷◌, ◌++◌, Option, Some, None, refl, sym, ap, subst, ◌∙◌, arith, length, nat_lt, nat_eq, true≢false}
use Rattle.std.specs.Prelude.{filter, flat_map, ◌==◌}
use Rattle.std.specs.List.{AllByRecursion, list_all, list_any}
use Rattle.std.specs.Option.{option_map_or}
use Rattle.std.proofs.lemmas.Bool.{and_from}
use Rattle.std.proofs.lemmas.Bool.Decides.{nat_tests}
use Rattle.std.proofs.lemmas.List.Folds.{list_all-append}
use Rattle.clk_base.specs.declared.call.Micro.{Micro}
use Rattle.clk_base.specs.declared.call.Micro.TheVariants as micro
use Rattle.clk_base.specs.declared.call.Sleeping.{Sleeping}
use Rattle.clk_base.specs.declared.event.Turn.{Turn}
use Rattle.clk_base.specs.declared.event.Turn.TheVariants as turn
use Rattle.clk_base.specs.Description.{Description, kind_of, parents_of}
use Rattle.clk_base.specs.Fields.{Field}
use Rattle.clk_base.proofs.Valid.{lines_end}
use Rattle.clk_model.specs.declared.row.ClockRow.{ClockRow}
use Rattle.clk_model.specs.Lists.{is_in, same_place}
use Rattle.clk_model.specs.Kinds.{mux_field}
use Rattle.clk_model.specs.State.{State, Change, ChainStep, link_in}
use Rattle.clk_model.specs.Holders.{prepared}
use Rattle.clk_model.specs.Round.{Wiring, wiring, rate_in}
use Rattle.clk_model.specs.Chain.{clock_id, moves, place_of, outcome}
use Rattle.clk_model.specs.Walk.{walk}
use Rattle.clk_model.specs.Notices.{is_veto}
use Rattle.clk_model.specs.Script.{unfeed, fed_step, runs_for, visit_of, move, move_of, planned}
use Rattle.clk_base.specs.Flags.{runs_parent}
use Rattle.clk_model.specs.Begin.{begun}
use Rattle.clk_model.specs.Wired.{IsWired, IsOrder}
use Rattle.clk_model.specs.Laws.Flight.{pre_notices, abort_notices}
use Rattle.clk_model.specs.Laws.Plans.{HasParent, LeadsFrom}
use Rattle.clk_model.specs.Laws.PlansRead.{plans}
use Rattle.clk_model.proofs.ActedLaws.{acted, acted_append, leaves_tree, all_leave, writes_fit}
use Rattle.clk_model.proofs.BeginsLaws.{Starts, raising_handle, lowering_handle, planning, reparents, probing, sweeping, IsPlannedOver, over_itself, over_range, Begins, answers, gives, takes, adjusts, prepares, unprepares, notes, registers, goes_on, begins_so}
use Rattle.clk_model.proofs.Members.{same_from_test}
use Rattle.clk_model.proofs.MuxLaws.{place_self, IsMux, moved_are_muxes}
use Rattle.clk_model.proofs.NoneLaws.{none_front, none_rest}
use Rattle.clk_model.proofs.OutcomeLaws.{SettingsFit}
use Rattle.clk_model.proofs.PlanLaws.{chains_lead}
use Rattle.clk_model.proofs.VetoLaws.{is_other, pre_are_notices, abort_are_notices}
use Rattle.clk_model.proofs.WalkedLaws.{walked, MovesMux, walk_acts, plan_walks, along_is}

-- ---- steps that fit

-- all of these steps can be steps of a plan
abbrev pub AllFit : Description → List Micro → Type 0
AllFit defs ms = list_all (writes_fit defs) ms ≡ true

pub fit_append : (defs : Description) (xs ys : List Micro) → AllFit defs xs → AllFit defs ys → AllFit defs (xs ++ ys)
fit_append defs xs ys e f = list_all-append (writes_fit defs) xs ys ∙ and_from (list_all (writes_fit defs) xs) (list_all (writes_fit defs) ys) e f

fit_flat_map : (defs : Description) (f : ℕ → List Micro) (cs : List ℕ) → ((c : ℕ) → AllFit defs (f c)) → AllFit defs (flat_map f cs)
fit_flat_map defs f [] each = refl
fit_flat_map defs f (c ∷ cs) each = fit_append defs (f c) (flat_map f cs) (each c) (fit_flat_map defs f cs each)

notice_fits : (defs : Description) (m : Micro) → is_other m ≡ false → writes_fit defs m ≡ true
notice_fits defs (micro.Notify kind c id old new) e = refl
notice_fits defs _ e = absurd (true≢false e)

notices_fit : (defs : Description) (ms : List Micro) → list_any is_other ms ≡ false → AllFit defs ms
notices_fit defs [] none = refl
notices_fit defs (m ∷ ms) none = and_from (writes_fit defs m) (list_all (writes_fit defs) ms) (notice_fits defs m (none_front is_other m ms none)) (notices_fit defs ms (none_rest is_other m ms none))

notice_leaves : (m : Micro) → is_other m ≡ false → leaves_tree m ≡ true
notice_leaves (micro.Notify kind c id old new) e = refl
notice_leaves _ e = absurd (true≢false e)

notices_leave : (ms : List Micro) → list_any is_other ms ≡ false → list_all leaves_tree ms ≡ true
notices_leave [] none = refl
notices_leave (m ∷ ms) none = and_from (leaves_tree m) (list_all leaves_tree ms) (notice_leaves m (none_front is_other m ms none)) (notices_leave ms (none_rest is_other m ms none))

place_fits : (defs : Description) (c p : ℕ) → SettingsFit defs → is_in p (parents_of defs c) ≡ true → writes_fit defs (micro.WriteMux (clock_id c) (place_of defs c p)) ≡ true
place_fits defs c p fits m = by (mux_field (kind_of defs c)) refl where
  by : (o : Option Field) → mux_field (kind_of defs c) ≡ o → option_map_or (λ f. nat_lt (place_of defs c p) (2 ^ f.width)) o true ≡ true
  by None at = refl
  by (Some f) at = let below = (fits c).place f p at m in grind (arith, nat_tests)

move_fits : (defs : Description) (clocks : List ClockRow) (prep : ℕ → Bool) (c p : ℕ) → writes_fit defs (micro.WriteMux (clock_id c) (place_of defs c p)) ≡ true → AllFit defs (move defs clocks prep c p)
move_fits defs clocks prep c p fits = either (prep c) _ _ (own _ (lets (link_in clocks c))) (either (runs_parent defs c) _ _ (own _ (more (link_in clocks c))) (own _ refl)) where
  own : (b : Bool) → b ≡ true → (writes_fit defs (micro.WriteMux (clock_id c) (place_of defs c p)) && b) ≡ true
  own b e = and_from (writes_fit defs (micro.WriteMux (clock_id c) (place_of defs c p))) b fits e

  lets : (l : Option ℕ) → AllFit defs (option_map_or unfeed l [])
  lets None = refl
  lets (Some o) = refl

  more : (l : Option ℕ) → AllFit defs (option_map_or unfeed l [] ++ unfeed c)
  more None = refl
  more (Some o) = refl

  either : (t : Bool) (xs ys : List Micro) → AllFit defs xs → AllFit defs ys → AllFit defs (cond t xs ys)
  either true xs ys e f = e
  either false xs ys e f = f

visit_fits : (defs : Description) (clocks : List ClockRow) (ks : List ChainStep) (c : ℕ) → AllFit defs (visit_of defs clocks ks c)
visit_fits defs clocks ks c = one (runs_for defs clocks ks c) where
  one : (o : Option ℕ) → AllFit defs (fed_step o (micro.Visit (clock_id c)))
  one None = refl
  one (Some x) = refl

parent_fits : (w : Wiring) (clocks : List ClockRow) (prep : ℕ → Bool) (k : ChainStep) (o : Option ℕ) → SettingsFit w.defs → HasParent w k → k.parent ≡ o → AllFit w.defs (option_map_or (move w.defs clocks prep k.clock) o [])
parent_fits w clocks prep k None fits has at = refl
parent_fits w clocks prep k (Some p) fits has at = move_fits w.defs clocks prep k.clock p (place_fits w.defs k.clock p fits (has.possible p at))

moves_fit : (w : Wiring) (clocks : List ClockRow) (prep : ℕ → Bool) (ks : List ChainStep) (c : ℕ) → SettingsFit w.defs → AllByRecursion (HasParent w) ks → AllFit w.defs (move_of w.defs clocks prep ks c)
moves_fit w clocks prep [] c fits has = refl
moves_fit w clocks prep (k ∷ ks) c fits has = one (nat_eq k.clock c) refl (moves clocks k) (moves_fit w clocks prep ks c fits has.1) where
  steps : ChainStep → List Micro
  steps l = option_map_or (move w.defs clocks prep c) l.parent []

  one : (t : Bool) → nat_eq k.clock c ≡ t → (u : Bool) → AllFit w.defs (move_of w.defs clocks prep ks c)
      → AllFit w.defs (flat_map (λ l. option_map_or (move w.defs clocks prep c) l.parent []) (cond (t && u) (k ∷ filter (λ l. (l.clock == c) && moves clocks l) ks) (filter (λ l. (l.clock == c) && moves clocks l) ks)))
  one false e u rest = rest
  one true e false rest = rest
  one true e true rest =
      fit_append w.defs (option_map_or (move w.defs clocks prep c) k.parent []) (move_of w.defs clocks prep ks c)
      (subst (λ (x : ℕ). AllFit w.defs (option_map_or (move w.defs clocks prep x) k.parent [])) (same_from_test k.clock c e) (parent_fits w clocks prep k k.parent fits has.0 refl)) rest

-- ---- whole scripts

-- the steps of a plan can be steps of one
pub planned_fits : (s : State) (ks : List ChainStep) (settles : List Micro) → SettingsFit s.defs → AllByRecursion (HasParent (wiring s)) ks → AllFit s.defs settles → AllFit s.defs (planned s ks settles).steps
unfolding planned
planned_fits s ks settles fits has settling =
    let moved : List Micro = flat_map (walked s.defs s.clocks (prepared s) ks) (walk s.order (wiring s) ks) ++ settles in
    fit_append s.defs (pre_notices s ks ++ cond (list_any is_veto (pre_notices s ks)) (abort_notices s ks) moved) (micro.End ∷ [])
    (fit_append s.defs (pre_notices s ks) (cond (list_any is_veto (pre_notices s ks)) (abort_notices s ks) moved) (notices_fit s.defs (pre_notices s ks) (pre_are_notices s ks))
    (either (list_any is_veto (pre_notices s ks)) (abort_notices s ks) moved (notices_fit s.defs (abort_notices s ks) (abort_are_notices s ks))
    (fit_append s.defs (flat_map (walked s.defs s.clocks (prepared s) ks) (walk s.order (wiring s) ks)) settles
    (fit_flat_map s.defs (walked s.defs s.clocks (prepared s) ks) (walk s.order (wiring s) ks)
    (λ c. fit_append s.defs (move_of s.defs s.clocks (prepared s) ks c) (visit_of s.defs s.clocks ks c) (moves_fit (wiring s) s.clocks (prepared s) ks c fits has) (visit_fits s.defs s.clocks ks c))) settling))) refl where
      either : (t : Bool) (xs ys : List Micro) → AllFit s.defs xs → AllFit s.defs ys → AllFit s.defs (cond t xs ys)
      either true xs ys e f = e
      either false xs ys e f = f

-- and make of the tree the outcome of its chain, if no notice is a veto
pub planned_acts : (s : State) (c : ℕ) (ks : List ChainStep) (settles : List Micro) → IsWired (length s.regs) (wiring s) → IsOrder s.order s.clocks → LeadsFrom (wiring s) c ks
    → AllByRecursion (MovesMux s.defs s.clocks) ks → list_all leaves_tree settles ≡ true → (planned s ks settles).vetoed ≡ false
    → acted ks (planned s ks settles).steps (wiring s) ≡ outcome ks (wiring s)
unfolding planned
planned_acts s c ks settles wired ordered leads muxes settling calm =
    let w : Wiring = wiring s in
    let walk_steps : List Micro = flat_map (walked s.defs s.clocks (prepared s) ks) (walk s.order w ks) in
    ap (λ (t : Bool). acted ks ((pre_notices s ks ++ cond t (abort_notices s ks) (walk_steps ++ settles)) ++ micro.End ∷ []) w) calm
    ∙ acted_append ks (pre_notices s ks ++ (walk_steps ++ settles)) (micro.End ∷ []) w
    ∙ acted_append ks (pre_notices s ks) (walk_steps ++ settles) w
    ∙ ap (λ (v : Wiring). acted ks (walk_steps ++ settles) v) (all_leave ks (pre_notices s ks) w (notices_leave (pre_notices s ks) (pre_are_notices s ks)))
    ∙ acted_append ks walk_steps settles w
    ∙ all_leave ks settles (acted ks walk_steps w) settling
    ∙ walk_acts ks s.defs s.clocks (prepared s) (walk s.order w ks) w refl leads.once muxes
    ∙ along_is (link_in (outcome ks w).clocks) w ks (walk s.order w ks) (plan_walks (length s.regs) s.order w c ks wired ordered leads)

-- ---- how calls that plan begin

-- a change along a planned chain, made in a state with the tree of another
pub record AlongPlan (q : State) (k : Change) : Type 0 where
  pub over : State
  pub clock : ℕ
  pub steps : List ChainStep
  pub settles : List Micro
  pub left : k.left ≡ (planned over steps settles).steps
  pub chain : k.chain ≡ steps
  pub vetoed : k.vetoed ≡ (planned over steps settles).vetoed
  pub tree : wiring over ≡ wiring q
  pub order : over.order ≡ q.order
  pub leads : LeadsFrom (wiring over) clock steps
  pub muxes : AllByRecursion (MovesMux over.defs over.clocks) steps
  pub settling : list_all leaves_tree settles ≡ true
  pub fits : AllFit over.defs settles

stays_put : (clocks : List ClockRow) (k : ChainStep) → moves clocks k ≡ true → k.parent ≡ link_in clocks k.clock → ⊥
stays_put clocks k away same =
    true≢false (sym away ∙ ap (λ (o : Option ℕ). not (same_place o (link_in clocks k.clock))) same ∙ ap not (place_self (link_in clocks k.clock)))

-- a moved clock of a plan is a mux, and gets a parent
muxes_of : (w : Wiring) (ks : List ChainStep) → AllByRecursion (HasParent w) ks → AllByRecursion (IsMux w) ks → AllByRecursion (MovesMux w.defs w.clocks) ks
muxes_of w [] has is = tt
muxes_of w (k ∷ ks) has is = (
  record { mux = is.0; leads = λ away none. stays_put w.clocks k away (none ∙ sym (has.0.none none)) },
  muxes_of w ks has.1 is.1,
)

wiring_over : (q n : State) → IsPlannedOver q n → (wiring n ≡ wiring q) × (n.order ≡ q.order)
wiring_over q n over_itself = (refl, refl)
wiring_over q n (over_range number old new adjusts_) = (refl, refl)

starts_plan : (q n : State) (d : ℕ) (what : Sleeping) (k : Change) → IsWired (length q.regs) (wiring q) → plans what ≡ true → Starts q d what n k → AlongPlan q k
starts_plan q n d what k wired plan (raising_handle h row is at) = absurd (true≢false (sym plan ∙ ap plans is))
starts_plan q n d what k wired plan (lowering_handle h row is at keeps) = absurd (true≢false (sym plan ∙ ap plans is))
starts_plan q n d what k wired plan (probing c is free) = absurd (true≢false (sym plan ∙ ap plans is))
starts_plan q n d what k wired plan (sweeping is) = absurd (true≢false (sym plan ∙ ap plans is))
starts_plan q n d what k wired plan (planning m number row plans_over x ks range over at chained rates) =
    let same = wiring_over q n over in
    let own : IsWired (length q.regs) (wiring n) = subst (IsWired (length q.regs)) (sym same.0) wired in
    let is = chains_lead (wiring n) plans_over row.clock.0 x ks (lines_end (length q.regs) n.defs own.valid) own.links chained in
    record {
      over = n;
      clock = row.clock.0;
      steps = ks;
      settles = [];
      left = refl;
      chain = refl;
      vetoed = refl;
      tree = same.0;
      order = same.1;
      leads = is.leads;
      muxes = muxes_of (wiring n) ks is.leads.parents (moved_are_muxes (wiring n) plans_over row.clock.0 x ks chained);
      settling = refl;
      fits = refl;
    }
starts_plan q n d what k wired plan (reparents number row p sets at away mux parent root) =
    let c : ℕ = row.clock.0 in
    let ks : List ChainStep = record { clock = c; rate = rate_in (outcome (record { clock = c; rate = 0; parent = Some p } ∷ []) (wiring q)) c; parent = Some p } ∷ [] in
    record {
      over = q;
      clock = c;
      steps = ks;
      settles = micro.Settle (clock_id c) ∷ [];
      left = refl;
      chain = refl;
      vetoed = refl;
      tree = refl;
      order = refl;
      leads = record {
        first = refl;
        leads = tt;
        parents = (record { possible = λ o e. let same : p ≡ o = cc in subst (λ (z : ℕ). is_in z (parents_of q.defs c) ≡ true) same parent; none = λ e. absurd cc }, tt);
        once = refl;
      };
      muxes = (record { mux = λ e. mux; leads = λ e none. absurd cc }, tt);
      settling = refl;
      fits = refl;
    }

starts_tree : (q n : State) (d : ℕ) (what : Sleeping) (k : Change) → plans what ≡ true → Starts q d what n k → wiring n ≡ wiring q
starts_tree q n d what k plan (raising_handle h row is at) = absurd (true≢false (sym plan ∙ ap plans is))
starts_tree q n d what k plan (lowering_handle h row is at keeps) = absurd (true≢false (sym plan ∙ ap plans is))
starts_tree q n d what k plan (probing c is free) = absurd (true≢false (sym plan ∙ ap plans is))
starts_tree q n d what k plan (sweeping is) = absurd (true≢false (sym plan ∙ ap plans is))
starts_tree q n d what k plan (planning m number row plans_over x ks range over at chained rates) = (wiring_over q n over).0
starts_tree q n d what k plan (reparents number row p sets at away mux parent root) = refl

-- so begins each call that plans and goes on
pub begins_plan : (q : State) (d : ℕ) (what : Sleeping) → IsWired (length q.regs) (wiring q) → plans what ≡ true → (begun q d what).1 ≡ turn.Going
    → (k : Change) × ((begun q d what).0.change ≡ Some k) × AlongPlan q k × (wiring (begun q d what).0 ≡ wiring q)
begins_plan q d what wired plan going = by (begun q d what) (begins_so q d what) going where
  by : (y : State × Turn) → Begins q d what y → y.1 ≡ turn.Going → (k : Change) × (y.0.change ≡ Some k) × AlongPlan q k × (wiring y.0 ≡ wiring q)
  by y (answers r) e = absurd cc
  by y (gives c root) e = absurd cc
  by y (takes number row at free) e = absurd cc
  by y (adjusts number old new r is) e = absurd cc
  by y (prepares number row at none) e = absurd cc
  by y (unprepares number row at keeps) e = absurd cc
  by y (notes notifiers r) e = absurd cc
  by y (registers c free plain) e = absurd cc
  by y (goes_on n k starts) e = (k, refl, starts_plan q n d what k wired plan starts, starts_tree q n d what k plan starts)
