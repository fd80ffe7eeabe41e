-- Laws on the ends of calls and the PLLs that they raised: each is prepared there where it runs.
use Rattle.std.proofs.Common.{◌≡◌, ℕ, ◌+◌, ◌||◌, Bool, true, false, cond, map, List, [], ◌∷◌, ◌++◌, Option, Some, None, refl, sym, ap, subst, ◌∙◌, ◌⊎◌, inl, inr, arith, length}
use Rattle.std.proofs.lemmas.Bool.Decides.{nat_tests}
use Rattle.std.specs.Prelude.{option_map, if◌then◌else◌}
use Rattle.std.specs.List.{list_all}
use Rattle.std.specs.Option.{option_map_or}
use Rattle.clk_base.specs.declared.call.Micro.{Micro}
use Rattle.clk_base.specs.declared.call.Micro.TheVariants as micro
use Rattle.clk_base.specs.declared.call.Sleeping.{Sleeping}
use Rattle.clk_base.specs.declared.call.Sleeping.TheVariants as call
use Rattle.clk_base.specs.declared.clock.ClockId.{ClockId}
use Rattle.clk_base.specs.declared.event.Reply.{Reply}
use Rattle.clk_base.specs.declared.event.Turn.TheVariants as turn
use Rattle.clk_base.specs.declared.handle.Handle.{Handle}
use Rattle.clk_base.specs.Description.{Description}
use Rattle.clk_base.specs.Valid.{IsValid}
use Rattle.reg_bank.specs.Registers.{Registers}
use Rattle.clk_model.specs.declared.row.HandleRow.{HandleRow}
use Rattle.clk_model.specs.Lists.{is_in}
use Rattle.clk_model.specs.State.{State, Change, registered, handle_at, requested}
use Rattle.clk_model.specs.Tree.{path, path_to_be, link_given}
use Rattle.clk_model.specs.Holders.{is_prepared, critical_clocks, is_held, prepared}
use Rattle.clk_model.specs.Gates.{settled}
use Rattle.clk_model.specs.Round.{wiring}
use Rattle.clk_model.specs.Chain.{clock_id}
use Rattle.clk_model.specs.Script.{runs}
use Rattle.clk_model.specs.Begin.{prepared_once_more, held_once_more, request_between}
use Rattle.clk_model.specs.Step.{todo, taken, ended_well, unranged, end_of}
use Rattle.clk_model.specs.Machine.{comes_next}
use Rattle.clk_model.specs.Wired.{IsWired}
use Rattle.clk_model.proofs.Members.{both_left}
use Rattle.clk_model.proofs.HolderLaws.{is_under, held_by, held_by-set_more}
use Rattle.clk_model.proofs.SupplyLaws.{prepared_parts}
use Rattle.clk_model.proofs.PowerLaws.{runs_same}
use Rattle.clk_model.proofs.FlightLaws.{IsStep}
use Rattle.clk_model.proofs.VetoLaws.{ends_it, end_state}
use Rattle.clk_model.proofs.Scenes.{scene, is_plain, EndsPrepare, EndsRaise, GoesWell, is_over, covered, asks, asks_first, comes_again, is_calm, Stands, calm, raising, InCall}
use Rattle.clk_model.proofs.ArriveLaws.{wired_before, prepared_told}
use Rattle.clk_model.proofs.FlightSafeLaws.{FirstGoes, first_raises, first_makes, first_ends, first_goes, front_step, script_step}
use Rattle.clk_model.proofs.RestLaws.{Alike, alike_far, alike_put, alike_requested}
use Rattle.clk_model.proofs.EndSafeLaws.{unranged_alike, by_live}
use Rattle.clk_model.proofs.RaisedLaws.{Accounted, stopped_, kept, raised_, lowering}
use Rattle.clk_model.proofs.RaisedStepLaws.{lowering_first}

-- ---- the gates follow

-- what a PLL is accounted for by is so behind gates that follow, too
pub accounted_settled : (s u : State) (n : ℕ) (k : Change) (y : ℕ) → IsValid (length u.regs) u.defs → Accounted u k y → Accounted (record (settled s u) { steps = n }) k y
unfolding settled
accounted_settled s u n k y valid (stopped_ e) = stopped_ (runs_same s u (length u.regs) y valid ∙ e)
accounted_settled s u n k y valid (kept prep) = kept prep
accounted_settled s u n k y valid (raised_ m) = raised_ m
accounted_settled s u n k y valid (lowering l) = lowering (record { clock = l.clock; rest = l.rest; next = l.next; on_path = l.on_path })

-- ---- what an end leaves prepared

-- a state with the same scene has the same clocks prepared
pub prepared_alike : (s u : State) (y : ℕ) → Alike s u → prepared u y ≡ prepared s y
prepared_alike s u y alike = prepared_told None None s u (scene None s) y alike.defs (alike.scene_is None)

-- one prepare more prepares what was prepared, and the path of its clock
pub more_prepared : (s : State) (n : ℕ) (row : HandleRow) (y : ℕ) → handle_at s.handles n ≡ Some row → (prepared s y ≡ true) ⊎ (is_under s.clocks row y ≡ true) → prepared (prepared_once_more s n row) y ≡ true
more_prepared s n row y at was =
    prepared_parts (prepared_once_more s n row) y
    ∙ ap (λ (t : Bool). (t || is_held s.clocks (critical_clocks s) y) || is_held s.clocks s.prepare_holds y)
    (held_by-set_more s.clocks is_prepared s.handles n row (record row { prepares = row.prepares + 1 }) y at refl (grind (arith, nat_tests)))
    ∙ by_parts (held_by s.clocks is_prepared s.handles y) (is_under s.clocks row y) (is_held s.clocks (critical_clocks s) y) (is_held s.clocks s.prepare_holds y) (prepared_parts s y) was where
      by_parts : (a u b h : Bool) → prepared s y ≡ ((a || b) || h) → (prepared s y ≡ true) ⊎ (u ≡ true) → (((a || u) || b) || h) ≡ true
      by_parts true u b h is w = refl
      by_parts false true b h is w = refl
      by_parts false false b h is (inl e) = sym is ∙ e
      by_parts false false b h is (inr e) = absurd cc

pub well_keeps : (s : State) (d : ℕ) (what : Sleeping) (y : ℕ) → prepared s y ≡ true → prepared (ended_well s d what) y ≡ true
well_keeps s d (call.Prepare h) y prep =
    by_live (λ u. prepared u y ≡ true) (handle_at s.handles h.number) (prepared_once_more s h.number) s (λ none. prep) (λ row at. more_prepared s h.number row y at (inl prep))
well_keeps s d (call.SetRate h x) y prep =
    by_live (λ u. prepared u y ≡ true) (handle_at s.handles h.number) (λ row. record s { clocks = requested s.clocks row.clock.0 x }) s (λ none. prep)
    (λ row at. prepared_alike s _ y (alike_requested s row.clock.0 x) ∙ prep)
well_keeps s d (call.SetRateExclusive h x) y prep =
    by_live (λ u. prepared u y ≡ true) (handle_at s.handles h.number) (λ row. record (held_once_more s h.number row) { clocks = requested s.clocks row.clock.0 x }) s (λ none. prep)
    (λ row at. prepared_alike s _ y
    (alike_far s (held_once_more s h.number row) _ (alike_put s h.number row (record row { exclusives = row.exclusives + 1 }) at refl refl refl) (alike_requested (held_once_more s h.number row) row.clock.0 x)) ∙ prep)
well_keeps s d (call.SetRange h least most) y prep =
    by_live (λ u. prepared u y ≡ true) (handle_at s.handles h.number) (λ row. record s { clocks = requested s.clocks row.clock.0 (request_between s.clocks row.clock.0 least most) }) s (λ none. prep)
    (λ row at. prepared_alike s _ y (alike_requested s row.clock.0 (request_between s.clocks row.clock.0 least most)) ∙ prep)
well_keeps s d what y prep = prep

pub end_keeps : (s : State) (k : Change) (y : ℕ) → prepared s y ≡ true → prepared (end_of s k).0 y ≡ true
end_keeps s k y prep = either (k.vetoed || k.timed_out) where
  either : (b : Bool) → prepared (record (cond b (unranged s k) (ended_well s k.driver k.call)) { change = None }) y ≡ true
  either true = prepared_alike s (unranged s k) y (unranged_alike s k.call k.range) ∙ prep
  either false = well_keeps s k.driver k.call y prep

-- the path of a prepare that went well
pub end_prepares : (s : State) (k : Change) (h : Handle) (row : HandleRow) (y : ℕ) → k.vetoed ≡ false → k.timed_out ≡ false → k.call ≡ call.Prepare h → handle_at s.handles h.number ≡ Some row
    → is_under s.clocks row y ≡ true → prepared (end_of s k).0 y ≡ true
end_prepares s k h row y calm_ on_time is at under = either (k.vetoed || k.timed_out) (ap (λ (b : Bool). b || k.timed_out) calm_ ∙ on_time) where
  by_row : (o : Option HandleRow) → o ≡ Some row → prepared (option_map_or (prepared_once_more s h.number) o s) y ≡ true
  by_row None e = absurd cc
  by_row (Some r) e = let same : r ≡ row = cc in subst (λ (q : HandleRow). prepared (prepared_once_more s h.number q) y ≡ true) (sym same) (more_prepared s h.number row y at (inr under))

  either : (b : Bool) → b ≡ false → prepared (record (cond b (unranged s k) (ended_well s k.driver k.call)) { change = None }) y ≡ true
  either true e = absurd cc
  either false e = subst (λ (w : Sleeping). prepared (ended_well s k.driver w) y ≡ true) (sym is) (by_row (handle_at s.handles h.number) at)

pub end_regs : (s : State) (k : Change) → ((end_of s k).0.regs ≡ s.regs) × ((end_of s k).0.defs ≡ s.defs)
end_regs s k = either (k.vetoed || k.timed_out) where
  behind : State → Type 0
  behind u = (u.regs ≡ s.regs) × (u.defs ≡ s.defs)

  well : (what : Sleeping) → behind (ended_well s k.driver what)
  well (call.Prepare h) = by_live behind (handle_at s.handles h.number) (prepared_once_more s h.number) s (λ none. (refl, refl)) (λ row at. (refl, refl))
  well (call.SetRate h x) = by_live behind (handle_at s.handles h.number) (λ row. record s { clocks = requested s.clocks row.clock.0 x }) s (λ none. (refl, refl)) (λ row at. (refl, refl))
  well (call.SetRateExclusive h x) =
      by_live behind (handle_at s.handles h.number) (λ row. record (held_once_more s h.number row) { clocks = requested s.clocks row.clock.0 x }) s (λ none. (refl, refl)) (λ row at. (refl, refl))
  well (call.SetRange h least most) =
      by_live behind (handle_at s.handles h.number) (λ row. record s { clocks = requested s.clocks row.clock.0 (request_between s.clocks row.clock.0 least most) }) s (λ none. (refl, refl)) (λ row at. (refl, refl))
  well what = (refl, refl)

  either : (b : Bool) → behind (record (cond b (unranged s k) (ended_well s k.driver k.call)) { change = None })
  either true = (refl, refl)
  either false = well k.call

-- ---- the end

-- at an end a PLL that is accounted for is prepared where it runs
pub end_accounts : (s t : State) (d : ℕ) (m : Micro) (answer : Option Bool) (r : Reply) (k : Change) (y : ℕ) → IsStep s t d m answer (turn.Done r) k → InCall s k → IsWired (length t.regs) (wiring t)
    → ((h : Handle) → k.call ≡ call.Prepare h → k.vetoed ≡ false) → Accounted s k y → runs t.defs t.regs y ≡ true → prepared t y ≡ true
unfolding settled
end_accounts s t d m answer r k y step in_call wired calm_ was runs_ = by_case was where
  end_ : m ≡ micro.End
  end_ = ends_it s (taken k) answer m r step.answered

  u : State
  u = (end_of s (taken k)).0

  state : record (settled s u) { steps = s.steps + 1 } ≡ t
  state = ap (λ (v : State). let x : State = record (settled s v) { steps = s.steps + 1 } in x) (sym (end_state s (taken k) answer m end_)) ∙ step.state

  valid_u : IsValid (length u.regs) u.defs
  valid_u = (wired_before s u (subst (λ (v : State). IsWired (length v.regs) (wiring v)) (sym state) wired)).valid

  -- it ran before
  before : runs s.defs s.regs y ≡ true
  before =
      let same = end_regs s (taken k) in
      ap (λ (regs : Registers). runs s.defs regs y) (sym same.0) ∙ ap (λ (ds : Description). runs ds u.regs y) (sym same.1)
      ∙ sym (runs_same s u (length u.regs) y valid_u) ∙ ap (λ (v : State). runs v.defs v.regs y) state ∙ runs_

  told : prepared u y ≡ true → prepared t y ≡ true
  told e = ap (λ (v : State). prepared v y) (sym state) ∙ e

  by_raised : is_in y k.raised ≡ true → Stands s k in_call.late → prepared t y ≡ true
  by_raised n (calm rest front still idle goes) = by_list k.raised rest n front still where
    by_list : (ys : List ℕ) (ms : List Micro) → is_in y ys ≡ true → k.front ≡ map (λ z. micro.Fall (clock_id z)) ys ++ ms → list_all is_calm ms ≡ true → prepared t y ≡ true
    by_list [] ms e at still' = absurd cc
    by_list (z ∷ ys) ms e at still' =
        let here = front_step k m (micro.Fall (clock_id z)) (map (λ v. micro.Fall (clock_id v)) ys ++ ms) at step.first in
        let no : micro.End ≡ micro.Fall (clock_id z) = sym end_ ∙ here.0 in
        absurd cc
  by_raised n (raising done x well all (asks z front none) goes cut) =
      let here = front_step k m (micro.Poll z) [] front step.first in
      let no : micro.End ≡ micro.Poll z = sym end_ ∙ here.0 in absurd cc
  by_raised n (raising done x well all (asks_first z front) goes cut) =
      let here = front_step k m (micro.Poll z) (micro.Raise (clock_id x) ∷ []) front step.first in
      let no : micro.End ≡ micro.Poll z = sym end_ ∙ here.0 in absurd cc
  by_raised n (raising done x well all (comes_again front) goes cut) =
      let here = front_step k m (micro.Raise (clock_id x)) [] front step.first in
      let no : micro.End ≡ micro.Raise (clock_id x) = sym end_ ∙ here.0 in absurd cc
  by_raised n (covered [] empty well all goes) = let no : false ≡ true = well.within y n in absurd cc
  by_raised n (covered (x ∷ xs) empty well all goes) = by_first (first_goes s.defs k.call m (taken k).left goes (script_step k m empty step.first).0) where
    first_of : List ℕ → ℕ
    first_of [] = 0
    first_of (z ∷ zs) = z

    alone_ : (p : Bool) → (p || false) ≡ true → p ≡ true
    alone_ true e = refl
    alone_ false e = e

    by_row : (h : Handle) → k.call ≡ call.Prepare h → k.timed_out ≡ false → registered s.clocks x ≡ true → is_in y (path_to_be s.defs s.regs s.clocks x) ≡ true → (o : Option HandleRow) → handle_at s.handles h.number ≡ o → option_map (λ q. q.clock.0) o ≡ Some x
        → prepared t y ≡ true
    by_row h is on_time there on_path None at e = absurd cc
    by_row h is on_time there on_path (Some row) at e =
        let same : row.clock.0 ≡ x = cc in
        told (end_prepares s (taken k) h row y (calm_ h is) on_time is at
        (ap (λ (v : ℕ). is_in y (path s.clocks v)) same
        ∙ sym (ap (λ (b : Bool). is_in y (if b then path s.clocks x else x ∷ option_map_or (path s.clocks) (link_given s.defs s.regs s.clocks x) [])) there) ∙ on_path))

    by_end : EndsRaise k.call k.timed_out (x ∷ xs) → EndsPrepare k.call k.timed_out (x ∷ xs) (scene in_call.late s) → prepared t y ≡ true
    by_end alone prep = by_cause (prep alone.1.0 alone.1.1) where
      by_cause : (k.timed_out ≡ true) ⊎ ((z : ℕ) × (x ∷ xs ≡ z ∷ []) × (registered s.clocks z ≡ true) × (option_map (λ q. q.clock.0) (handle_at s.handles alone.1.0.number) ≡ Some z)) → prepared t y ≡ true
      by_cause (inl timed) = let no : true ≡ false = sym timed ∙ alone.0 in absurd cc
      by_cause (inr found) =
          let same : x ≡ found.0 = ap first_of found.1 in
          by_row alone.1.0 alone.1.1 alone.0 (ap (registered s.clocks) same ∙ found.2) (alone_ (is_in y (path_to_be s.defs s.regs s.clocks x)) (ap (λ (zs : List ℕ). is_over s zs y) (ap (λ (z : ℕ). z ∷ []) same ∙ sym found.1) ∙ well.within y n)) (handle_at s.handles alone.1.0.number) refl (found.3 ∙ ap (λ (v : ℕ). Some v) (sym same))

    by_first : FirstGoes s.defs k.call k.timed_out (x ∷ xs) (scene in_call.late s) m (taken k).left → prepared t y ≡ true
    by_first (first_raises z is goes' cut') = let no : micro.End ≡ micro.Raise z = sym end_ ∙ is in absurd cc
    by_first (first_makes plain serves grows stays goes') = let no : false ≡ true = ap is_plain (sym end_) ∙ plain in absurd cc
    by_first (first_ends is free alone prep) = by_end alone prep

  by_case : Accounted s k y → prepared t y ≡ true
  by_case (stopped_ e) = let no : true ≡ false = sym before ∙ e in absurd cc
  by_case (kept prep) = told (end_keeps s (taken k) y prep)
  by_case (raised_ n) = by_raised n in_call.stands
  by_case (lowering l) = let no : micro.End ≡ micro.Lower l.clock = sym end_ ∙ lowering_first s k m y l step.first in absurd cc

-- ---- polls stand in front

pub poll_in_front : (s : State) (k : Change) (z : ClockId) → InCall s k → comes_next (micro.Poll z) (todo k) ≡ true → (rest : List Micro) × (k.front ≡ micro.Poll z ∷ rest)
poll_in_front s k z in_call first = by_stand in_call.stands where
  Front : Type 0
  Front = (rest : List Micro) × (k.front ≡ micro.Poll z ∷ rest)

  by_first : (cover : List ℕ) → FirstGoes s.defs k.call k.timed_out cover (scene in_call.late s) (micro.Poll z) (taken k).left → Front
  by_first cover (first_raises x is goes cut) = absurd cc
  by_first cover (first_makes plain serves grows stays goes) = absurd cc
  by_first cover (first_ends is free alone prep) = absurd cc

  by_calm : (ys : List ℕ) (rest : List Micro) → k.front ≡ map (λ y. micro.Fall (clock_id y)) ys ++ rest → list_all is_calm rest ≡ true → GoesWell s.defs k.call k.timed_out [] (scene in_call.late s) k.left → Front
  by_calm (y ∷ ys) rest front still goes =
      let here = front_step k (micro.Poll z) (micro.Fall (clock_id y)) (map (λ v. micro.Fall (clock_id v)) ys ++ rest) front first in
      let no : micro.Poll z ≡ micro.Fall (clock_id y) = here.0 in absurd cc
  by_calm [] (r ∷ rest) front still goes =
      let here = front_step k (micro.Poll z) r rest front first in
      let no : false ≡ true = ap is_calm here.0 ∙ (both_left (is_calm r) (list_all is_calm rest) still) in absurd cc
  by_calm [] [] front still goes = by_first [] (first_goes s.defs k.call (micro.Poll z) (taken k).left goes (script_step k (micro.Poll z) front first).0)

  by_stand : Stands s k in_call.late → Front
  by_stand (calm rest front still idle goes) = by_calm k.raised rest front still goes
  by_stand (covered xs empty well all goes) = by_first xs (first_goes s.defs k.call (micro.Poll z) (taken k).left goes (script_step k (micro.Poll z) empty first).0)
  by_stand (raising done x well all (asks y front none) goes cut) =
      let here = front_step k (micro.Poll z) (micro.Poll y) [] front first in
      ([], front ∙ ap (λ (n : Micro). n ∷ []) (sym here.0))
  by_stand (raising done x well all (asks_first y front) goes cut) =
      let here = front_step k (micro.Poll z) (micro.Poll y) (micro.Raise (clock_id x) ∷ []) front first in
      (micro.Raise (clock_id x) ∷ [], front ∙ ap (λ (n : Micro). n ∷ micro.Raise (clock_id x) ∷ []) (sym here.0))
  by_stand (raising done x well all (comes_again front) goes cut) =
      let here = front_step k (micro.Poll z) (micro.Raise (clock_id x)) [] front first in
      let no : micro.Poll z ≡ micro.Raise (clock_id x) = here.0 in absurd cc
