-- Laws on ends of calls: they leave a state at rest.
use Rattle.std.proofs.Common.{◌≡◌, ℕ, zero, suc, ◌+◌, ◌||◌, Bool, true, false, cond, map, set, List, [], ◌∷◌, ◌++◌, Option, Some, None, refl, sym, ap, subst, ◌∙◌, ◌⊎◌, inl, inr, arith, length}
use Rattle.std.specs.Prelude.{IfSome, option_map, if◌then◌else◌}
use Rattle.std.specs.List.{list_all}
use Rattle.std.specs.Option.{option_map_or}
use Rattle.clk_base.specs.declared.call.Micro.{Micro}
use Rattle.clk_base.specs.declared.call.Micro.TheVariants as micro
use Rattle.clk_base.specs.declared.call.Sleeping.{Sleeping}
use Rattle.clk_base.specs.declared.call.Sleeping.TheVariants as call
use Rattle.clk_base.specs.declared.event.Reply.{Reply}
use Rattle.clk_base.specs.declared.event.Turn.TheVariants as turn
use Rattle.clk_base.specs.Description.{kind_of}
use Rattle.clk_base.specs.Fields.{power_of}
use Rattle.clk_model.specs.declared.row.HandleRow.{HandleRow}
use Rattle.clk_model.specs.Lists.{is_in}
use Rattle.clk_model.specs.Kinds.{is_powered}
use Rattle.clk_model.specs.State.{State, Change, registered, handle_at, requested}
use Rattle.clk_model.specs.Tree.{path, path_to_be, link_given}
use Rattle.clk_model.specs.Gates.{settled}
use Rattle.clk_model.specs.Round.{wiring}
use Rattle.clk_model.specs.Chain.{clock_id}
use Rattle.clk_model.specs.Begin.{prepared_once_more, held_once_more, request_between}
use Rattle.clk_model.specs.Step.{todo, taken, ended_well, with_range, range_back, unranged, end_of}
use Rattle.clk_model.specs.Machine.{comes_next}
use Rattle.clk_model.specs.Wired.{IsWired}
use Rattle.clk_model.proofs.Members.{is_in_head, both_left, not_either}
use Rattle.clk_model.proofs.FlightLaws.{IsStep}
use Rattle.clk_model.proofs.VetoLaws.{ends_it, end_state}
use Rattle.clk_model.proofs.HoldLaws.{end_holds}
use Rattle.clk_model.proofs.HolderLaws.{is_under}
use Rattle.clk_model.proofs.Scenes.{scene, IsFree, EndsPrepare, is_plain, IsSafe, asks, asks_first, comes_again, is_calm, Stands, calm, covered, raising, InCall, IsAtRest}
use Rattle.clk_model.proofs.ArriveLaws.{IsFit, fit_of, settled_safe, safe_recounted, wired_before, covered_powered}
use Rattle.clk_model.proofs.FlightSafeLaws.{FirstGoes, first_raises, first_makes, first_ends, first_goes, front_step, script_step}
use Rattle.clk_model.proofs.RestLaws.{Alike, alike_self, alike_far, alike_put, alike_requested, fit_alike, fit_counted, prepared_more, gates_alike}

-- ---- what stands before an end

-- nothing is held, and a prepare has its path powered, unless it has timed out
record IsLast (s : State) (k : Change) (late : Option ℕ) : Type 0 where
  cover : List ℕ
  free : IsFree (scene late s)
  prepare : EndsPrepare k.call k.timed_out cover (scene late s)
  powered : (x c : ℕ) → is_in x cover ≡ true → is_in c (path_to_be s.defs s.regs s.clocks x) ≡ true → IfSome (power_of (kind_of s.defs c)) (λ power. is_powered s.regs power ≡ true)

last_of : (s : State) (k : Change) (late : Option ℕ) (cover : List ℕ) (m : Micro) (ms : List Micro) → m ≡ micro.End → FirstGoes s.defs k.call k.timed_out cover (scene late s) m ms
    → ((x c : ℕ) → is_in x cover ≡ true → is_in c (path_to_be s.defs s.regs s.clocks x) ≡ true → IfSome (power_of (kind_of s.defs c)) (λ power. is_powered s.regs power ≡ true)) → IsLast s k late
last_of s k late cover m ms end (first_raises x is goes cut) powered = let no : micro.End ≡ micro.Raise x = sym end ∙ is in absurd cc
last_of s k late cover m ms end (first_makes plain serves grows stays goes) powered = let no : false ≡ true = ap is_plain (sym end) ∙ plain in absurd cc
last_of s k late cover m ms end (first_ends is free alone prep) powered = record { cover = cover; free = free; prepare = prep; powered = powered }

last_step : (s : State) (k : Change) (m : Micro) → m ≡ micro.End → (c : InCall s k) → comes_next m (todo k) ≡ true → IsLast s k c.late
last_step s k m end in_call first = by_stand in_call.stands where
  by_calm : (ys : List ℕ) (rest : List Micro) → k.front ≡ map (λ y. micro.Fall (clock_id y)) ys ++ rest → list_all is_calm rest ≡ true → (k.front ≡ []) ⊎ ⊥
  by_calm (y ∷ ys) rest front still =
      let here = front_step k m (micro.Fall (clock_id y)) (map (λ z. micro.Fall (clock_id z)) ys ++ rest) front first in
      let no : micro.End ≡ micro.Fall (clock_id y) = sym end ∙ here.0 in absurd cc
  by_calm [] (r ∷ rest) front still =
      let here = front_step k m r rest front first in
      let no : false ≡ true = ap is_calm (sym end ∙ here.0) ∙ both_left (is_calm r) (list_all is_calm rest) still in absurd cc
  by_calm [] [] front still = inl front

  by_stand : Stands s k in_call.late → IsLast s k in_call.late
  by_stand (calm rest front still idle goes) =
      elim (by_calm k.raised rest front still) [
        | inl empty ↦
            let here = script_step k m empty first in
            last_of s k in_call.late [] m (taken k).left end (first_goes s.defs k.call m (taken k).left goes here.0) (λ x c e. absurd cc)
        | inr never ↦ absurd never
      ]
  by_stand (covered xs empty well all goes) =
      let here = script_step k m empty first in
      last_of s k in_call.late xs m (taken k).left end (first_goes s.defs k.call m (taken k).left goes here.0)
      (λ x c n on_path. covered_powered s k xs x c in_call.safe.powers well (all x n) on_path)
  by_stand (raising done x well all (asks y front none) goes cut) =
      let here = front_step k m (micro.Poll y) [] front first in
      let no : micro.End ≡ micro.Poll y = sym end ∙ here.0 in absurd cc
  by_stand (raising done x well all (asks_first y front) goes cut) =
      let here = front_step k m (micro.Poll y) (micro.Raise (clock_id x) ∷ []) front first in
      let no : micro.End ≡ micro.Poll y = sym end ∙ here.0 in absurd cc
  by_stand (raising done x well all (comes_again front) goes cut) =
      let here = front_step k m (micro.Raise (clock_id x)) [] front first in
      let no : micro.End ≡ micro.Raise (clock_id x) = sym end ∙ here.0 in absurd cc

-- ---- what an end leaves

-- a state that is fit, with the registers of another
record IsFitBehind (s u : State) : Type 0 where
  fit : IsFit None u
  defs : u.defs ≡ s.defs
  regs : u.regs ≡ s.regs

behind_alike : (s u : State) → IsFit None s → Alike s u → IsWired (length u.regs) (wiring u) → IsFitBehind s u
behind_alike s u fit alike wired = record { fit = fit_alike None s u fit alike wired; defs = alike.defs; regs = alike.regs }

-- the change is nothing to a fit state
unchanged : (s v : State) → IsFitBehind s v → IsFitBehind s (record v { change = None })
unchanged s v is = record {
  fit = record { wired = is.fit.wired; sound = is.fit.sound; enables = is.fit.enables; powers = is.fit.powers };
  defs = is.defs;
  regs = is.regs;
}

set_none-same : (handles : List (Option HandleRow)) (n : ℕ) → handle_at handles n ≡ None → set handles n None ≡ handles
set_none-same [] n at = refl
set_none-same (o ∷ handles) zero at = ap (λ (p : Option HandleRow). p ∷ handles) (sym at)
set_none-same (o ∷ handles) (suc n) at = ap (λ (hs : List (Option HandleRow)). o ∷ hs) (set_none-same handles n at)

-- a range that is put back
pub unranged_alike : (s : State) (what : Sleeping) (range : Option (ℕ × ℕ)) → Alike s (record s { handles = range_back what range s.handles })
unranged_alike s (call.SetRange h least most) (Some range) = by_row (handle_at s.handles h.number) refl where
  by_row : (o : Option HandleRow) → handle_at s.handles h.number ≡ o → Alike s (record s { handles = set s.handles h.number (option_map (with_range range) o) })
  by_row None at = subst (λ (hs : List (Option HandleRow)). Alike s (record s { handles = hs })) (sym (set_none-same s.handles h.number at)) (alike_self s)
  by_row (Some row) at = alike_put s h.number row (with_range range row) at refl refl refl
unranged_alike s (call.SetRange h least most) None = alike_self s
unranged_alike s (call.Get found) range = alike_self s
unranged_alike s (call.Put h) range = alike_self s
unranged_alike s (call.Prepare h) range = alike_self s
unranged_alike s (call.Unprepare h) range = alike_self s
unranged_alike s (call.GetRate h) range = alike_self s
unranged_alike s (call.RoundRate h x) range = alike_self s
unranged_alike s (call.SetRate h x) range = alike_self s
unranged_alike s (call.SetRateExclusive h x) range = alike_self s
unranged_alike s (call.SetParent h p) range = alike_self s
unranged_alike s (call.GetParent h) range = alike_self s
unranged_alike s (call.ExclusiveGet h) range = alike_self s
unranged_alike s (call.ExclusivePut h) range = alike_self s
unranged_alike s (call.NotifierAdd h id priority policy) range = alike_self s
unranged_alike s (call.NotifierRemove h id) range = alike_self s
unranged_alike s (call.Probe c) range = alike_self s
unranged_alike s call.Sweep range = alike_self s

-- a prepare whose path is powered
pub prepared_behind : (s : State) (number : ℕ) (row : HandleRow) → IsFit None s → s.enable_holds ≡ [] → handle_at s.handles number ≡ Some row
    → ((c : ℕ) → is_under s.clocks row c ≡ true → IfSome (power_of (kind_of s.defs c)) (λ power. is_powered s.regs power ≡ true)) → IsFit None (prepared_once_more s number row)
prepared_behind s number row fit free at powered =
    fit_counted s number row (record row { prepares = row.prepares + 1 }) fit free at refl (λ on. omega arith)
    (λ c prep. elim (prepared_more s number row (record row { prepares = row.prepares + 1 }) c at refl (omega arith) prep) [
      | inl was ↦ fit.powers c was
      | inr under ↦ powered c under
    ])

-- what holds in each case of a live handle holds of the chosen one
pub by_live : (P : State → Type 0) (o : Option HandleRow) (f : HandleRow → State) (u : State) → (o ≡ None → P u) → ((row : HandleRow) → o ≡ Some row → P (f row)) → P (option_map_or f o u)
by_live P None f u none some = none refl
by_live P (Some row) f u none some = some row refl

-- what a call that went well leaves is fit
well_behind : (s : State) (d : ℕ) (what : Sleeping) → IsFit None s → s.enable_holds ≡ []
    → ((h : _) → what ≡ call.Prepare h → (row : HandleRow) → handle_at s.handles h.number ≡ Some row → (c : ℕ) → is_under s.clocks row c ≡ true
    → IfSome (power_of (kind_of s.defs c)) (λ power. is_powered s.regs power ≡ true))
    → IsWired (length (ended_well s d what).regs) (wiring (ended_well s d what)) → IsFitBehind s (ended_well s d what)
well_behind s d (call.Prepare h) fit free powered wired =
    by_live (IsFitBehind s) (handle_at s.handles h.number) (prepared_once_more s h.number) s (λ none. record { fit = fit; defs = refl; regs = refl })
    (λ row at. record { fit = prepared_behind s h.number row fit free at (powered h refl row at); defs = refl; regs = refl })
well_behind s d (call.SetRate h x) fit free powered wired =
    behind_alike s _ fit (by_live (Alike s) (handle_at s.handles h.number) (λ row. record s { clocks = requested s.clocks row.clock.0 x }) s (λ none. alike_self s) (λ row at. alike_requested s row.clock.0 x)) wired
well_behind s d (call.SetRateExclusive h x) fit free powered wired =
    behind_alike s _ fit
    (by_live (Alike s) (handle_at s.handles h.number) (λ row. record (held_once_more s h.number row) { clocks = requested s.clocks row.clock.0 x }) s (λ none. alike_self s)
    (λ row at. alike_far s (held_once_more s h.number row) _ (alike_put s h.number row (record row { exclusives = row.exclusives + 1 }) at refl refl refl) (alike_requested (held_once_more s h.number row) row.clock.0 x)))
    wired
well_behind s d (call.SetRange h least most) fit free powered wired =
    behind_alike s _ fit
    (by_live (Alike s) (handle_at s.handles h.number) (λ row. record s { clocks = requested s.clocks row.clock.0 (request_between s.clocks row.clock.0 least most) }) s (λ none. alike_self s)
    (λ row at. alike_requested s row.clock.0 (request_between s.clocks row.clock.0 least most)))
    wired
well_behind s d what fit free powered wired = behind_alike s _ fit (alike_self s) wired

-- the path of the handle of a prepare is powered at its end, if it has not timed out
prepare_powered : (s : State) (k : Change) (late : Option ℕ) → IsLast s k late → k.timed_out ≡ false → (h : _) → k.call ≡ call.Prepare h → (row : HandleRow) → handle_at s.handles h.number ≡ Some row
    → (c : ℕ) → is_under s.clocks row c ≡ true → IfSome (power_of (kind_of s.defs c)) (λ power. is_powered s.regs power ≡ true)
prepare_powered s k late last on_time h is row at c under = by_cause (last.prepare h is) where
  by_cause : (k.timed_out ≡ true) ⊎ ((x : ℕ) × (last.cover ≡ x ∷ []) × (registered s.clocks x ≡ true) × (option_map (λ r. r.clock.0) (handle_at s.handles h.number) ≡ Some x))
      → IfSome (power_of (kind_of s.defs c)) (λ power. is_powered s.regs power ≡ true)
  by_cause (inl timed) = let no : false ≡ true = sym on_time ∙ timed in absurd cc
  by_cause (inr found) =
      let both : Some row.clock.0 ≡ Some found.0 = sym (ap (option_map (λ r. r.clock.0)) at) ∙ found.3 in
      let same : row.clock.0 ≡ found.0 = cc in
      last.powered found.0 c (ap (is_in found.0) found.1 ∙ is_in_head found.0 [])
      (ap (λ (t : Bool). is_in c (if t then path s.clocks found.0 else found.0 ∷ option_map_or (path s.clocks) (link_given s.defs s.regs s.clocks found.0) [])) found.2
      ∙ ap (λ (x : ℕ). is_in c (path s.clocks x)) (sym same) ∙ under)

-- what an end leaves is fit
end_behind : (s : State) (k : Change) (late : Option ℕ) → IsSafe None s → IsLast s k late → IsWired (length (end_of s k).0.regs) (wiring (end_of s k).0) → IsFitBehind s (end_of s k).0
end_behind s k late safe last wired = unchanged s _ (either (k.vetoed || k.timed_out) refl wired) where
  fit : IsFit None s
  fit = fit_of None s safe

  either : (b : Bool) → (k.vetoed || k.timed_out) ≡ b → IsWired (length (cond b (unranged s k) (ended_well s k.driver k.call)).regs) (wiring (cond b (unranged s k) (ended_well s k.driver k.call)))
      → IsFitBehind s (cond b (unranged s k) (ended_well s k.driver k.call))
  either true e w = behind_alike s (unranged s k) fit (unranged_alike s k.call k.range) w
  either false e w = well_behind s k.driver k.call fit last.free.enables (prepare_powered s k late last (not_either k.vetoed k.timed_out e).1) w

-- the end of a call leaves a state at rest
pub end_rests : (s t : State) (d : ℕ) (m : Micro) (answer : Option Bool) (r : Reply) (k : Change) → IsStep s t d m answer (turn.Done r) k → InCall s k → IsWired (length t.regs) (wiring t)
    → (t.change ≡ None) × IsAtRest t
unfolding settled
end_rests s t d m answer r k step in_call wired =
    let end : m ≡ micro.End = ends_it s (taken k) answer m r step.answered in
    let u : State = (end_of s (taken k)).0 in
    let state : record (settled s u) { steps = s.steps + 1 } ≡ t =
    ap (λ (v : State). let x : State = record (settled s v) { steps = s.steps + 1 } in x) (sym (end_state s (taken k) answer m end)) ∙ step.state in
    let last = last_step s k m end in_call step.first in
    let safe : IsSafe None s = subst (λ (o : Option ℕ). IsSafe o s) last.free.late in_call.safe in
    let wired_u = wired_before s u (subst (λ (v : State). IsWired (length v.regs) (wiring v)) (sym state) wired) in
    let behind = end_behind s (taken k) in_call.late safe (record { cover = last.cover; free = last.free; prepare = last.prepare; powered = last.powered }) wired_u in
    let settled_u = settled_safe None s u behind.fit (gates_alike s u safe.gates behind.defs behind.regs) in
    let holds = end_holds s (taken k) in (
      sym (ap (λ (v : State). v.change) state),
      record {
        safe = subst (λ (v : State). IsSafe None v) state (safe_recounted None (settled s u) (settled s u).change (settled s u).spent (s.steps + 1) settled_u);
        prepares = sym (ap (λ (v : State). v.prepare_holds) state) ∙ ap (λ (h : List ℕ × List ℕ). h.0) holds ∙ last.free.prepares;
        enables = sym (ap (λ (v : State). v.enable_holds) state) ∙ ap (λ (h : List ℕ × List ℕ). h.1) holds ∙ last.free.enables;
      },
    )
