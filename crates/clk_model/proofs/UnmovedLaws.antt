-- Laws on links through a call: a clock has the parent that it had, where no step of the call gave it a link.
use Rattle.std.proofs.Common.{◌≡◌, ℕ, ◌+◌, ◌||◌, Bool, true, false, cond, List, [], ◌∷◌, Option, Some, None, refl, sym, ap, ◌∙◌}
use Rattle.std.proofs.lemmas.List.Folds.{list_any-append}
use Rattle.std.specs.List.{list_any}
use Rattle.std.specs.Option.{option_map_or}
use Rattle.clk_base.specs.declared.call.Micro.{Micro}
use Rattle.clk_base.specs.declared.call.Micro.TheVariants as micro
use Rattle.clk_base.specs.declared.call.Sleeping.{Sleeping}
use Rattle.clk_base.specs.declared.call.Sleeping.TheVariants as call
use Rattle.clk_base.specs.declared.event.Event.{Event}
use Rattle.clk_base.specs.declared.event.Event.TheVariants as event
use Rattle.clk_base.specs.declared.event.Turn.{Turn}
use Rattle.clk_base.specs.declared.event.Turn.TheVariants as turn
use Rattle.clk_model.specs.declared.row.ClockRow.{ClockRow}
use Rattle.clk_model.specs.declared.row.HandleRow.{HandleRow}
use Rattle.clk_model.specs.State.{State, Change, row_of, link_in, handle_at, requested}
use Rattle.clk_model.specs.Prep.{prep}
use Rattle.clk_model.specs.Gates.{settled}
use Rattle.clk_model.specs.Begin.{begun, prepared_once_more}
use Rattle.clk_model.specs.Step.{taken, ended_well, unranged, end_of, stepped}
use Rattle.clk_model.specs.Machine.{next}
use Rattle.clk_model.specs.Tier.{is_enable_tier}
use Rattle.clk_model.specs.Laws.Flight.{Flight, begins, goes_on, beside}
use Rattle.clk_model.specs.Laws.NothingLeft.{gives_link, UnmovedStay}
use Rattle.clk_model.proofs.Members.{not_either}
use Rattle.clk_model.proofs.TierLaws.{enable_tier_leaves_prep}
use Rattle.clk_model.proofs.HoldSteps.{relinks, link_set_same, step_links}
use Rattle.clk_model.proofs.FlightLaws.{IsStep, step_is, begin_is}
use Rattle.clk_model.proofs.VetoLaws.{ends_it, end_state}
use Rattle.clk_model.proofs.BeginsLaws.{IsPlannedOver, over_itself, over_range, Starts, raising_handle, lowering_handle, planning, reparents, probing, sweeping, Begins, answers, gives, takes, adjusts, prepares, unprepares, notes, registers, goes_on as goes_in, begins_so}

-- ---- beginnings

started_rows : (q n : State) (d : ℕ) (what : Sleeping) (k : Change) → Starts q d what n k → n.clocks ≡ q.clocks
started_rows q n d what k (raising_handle h row is at) = refl
started_rows q n d what k (lowering_handle h row is at gives_up) = refl
started_rows q n d what k (planning _ number row over x ks range planned_ at is rates) = by_state planned_ where
  by_state : {m : State} → IsPlannedOver q m → m.clocks ≡ q.clocks
  by_state over_itself = refl
  by_state (over_range i old new adjusted) = refl
started_rows q n d what k (reparents number row p sets at away mux m root) = refl
started_rows q n d what k (probing c is free) = refl
started_rows q n d what k (sweeping is) = refl

begun_rows : (q s : State) (d : ℕ) (what : Sleeping) → next q d (event.Begin what) ≡ Some (s, turn.Going) → s.clocks ≡ q.clocks
unfolding settled
begun_rows q s d what step = sym (ap (λ (v : State). v.clocks) start.1) ∙ by_case (begun q d what) (begins_so q d what) start.2 where
  start : (q.change ≡ None) × (record (settled q (begun q d what).0) { spent = q.spent + 1 } ≡ s) × ((begun q d what).1 ≡ turn.Going)
  start = begin_is q s d what turn.Going step

  by_case : (y : State × Turn) → Begins q d what y → y.1 ≡ turn.Going → y.0.clocks ≡ q.clocks
  by_case y (goes_in n k starts_) going = started_rows q n d what k starts_
  by_case y (answers r) going = absurd cc
  by_case y (gives c root) going = absurd cc
  by_case y (takes number row at idle) going = absurd cc
  by_case y (adjusts number old new r adjusted) going = absurd cc
  by_case y (prepares number row at calm_) going = absurd cc
  by_case y (unprepares number row at gives_up) going = absurd cc
  by_case y (notes notifiers r) going = absurd cc
  by_case y (registers c free calm_) going = absurd cc

-- ---- steps and ends

unlinked : (c : ℕ) (m : Micro) → gives_link c m ≡ false → relinks c m ≡ false
unlinked c (micro.Relink d p) e = e
unlinked c (micro.Register d) e = e
unlinked c m e = refl

-- the last request of a clock leaves the links
request_links : (rows : List ClockRow) (d x c : ℕ) → link_in (requested rows d x) c ≡ link_in rows c
request_links rows d x c = link_set_same rows d (record (row_of rows d) { last_request = x }) c refl

by_row : (s : State) (c : ℕ) (f : HandleRow → State) (o : Option HandleRow) → ((row : HandleRow) → link_in (f row).clocks c ≡ link_in s.clocks c) → link_in (option_map_or f o s).clocks c ≡ link_in s.clocks c
by_row s c f None each = refl
by_row s c f (Some row) each = each row

well_links : (s : State) (d : ℕ) (what : Sleeping) (c : ℕ) → link_in (ended_well s d what).clocks c ≡ link_in s.clocks c
well_links s d (call.Prepare h) c = by_row s c (prepared_once_more s h.number) (handle_at s.handles h.number) (λ row. refl)
well_links s d (call.SetRate h x) c = by_row s c _ (handle_at s.handles h.number) (λ row. request_links s.clocks row.clock.0 x c)
well_links s d (call.SetRateExclusive h x) c = by_row s c _ (handle_at s.handles h.number) (λ row. request_links s.clocks row.clock.0 x c)
well_links s d (call.SetRange h least most) c = by_row s c _ (handle_at s.handles h.number) (λ row. request_links s.clocks row.clock.0 _ c)
well_links s d _ c = refl

end_links : (s : State) (k : Change) (c : ℕ) → link_in (end_of s k).0.clocks c ≡ link_in s.clocks c
end_links s k c = either (k.vetoed || k.timed_out) where
  either : (b : Bool) → link_in (cond b (unranged s k) (ended_well s k.driver k.call)).clocks c ≡ link_in s.clocks c
  either true = refl
  either false = well_links s k.driver k.call c

links_behind : (s : State) (k : Change) (answer : Option Bool) (m : Micro) (c : ℕ) (x : Turn) → gives_link c m ≡ false → (stepped s k answer m).1 ≡ x → link_in (stepped s k answer m).0.clocks c ≡ link_in s.clocks c
links_behind s k answer m c turn.Going other at = step_links s k answer m c (unlinked c m other) at
links_behind s k answer m c (turn.Done r) other at = ap (λ (u : State). link_in u.clocks c) (end_state s k answer m (ends_it s k answer m r at)) ∙ end_links s k c

one_step : (s t : State) (d : ℕ) (m : Micro) (answer : Option Bool) (x : Turn) (c : ℕ) → next s d (event.Step m answer) ≡ Some (t, x) → gives_link c m ≡ false → link_in t.clocks c ≡ link_in s.clocks c
unfolding settled
one_step s t d m answer x c step other =
    let is = step_is s t d m answer x step in
    let of : IsStep s t d m answer x is.0 = is.1 in
    sym (ap (λ (u : State). link_in u.clocks c) of.state) ∙ links_behind s (taken is.0) answer m c x other of.answered

-- ---- the law

beside_rows : (s t : State) (other : ℕ) (e : Event) (x : Turn) → is_enable_tier e ≡ true → next s other e ≡ Some (t, x) → t.clocks ≡ s.clocks
unfolding prep
beside_rows s t other e x tier step = ap (λ (u : State). u.clocks) (enable_tier_leaves_prep s t other e x tier step)

flight_links : (q : State) (d : ℕ) (what : Sleeping) (c : ℕ) {s : State} {made : List Micro} → Flight q d what s made → list_any (gives_link c) made ≡ false → link_in s.clocks c ≡ link_in q.clocks c
flight_links q d what c {s = s} (begins step) none = ap (λ (rows : List ClockRow). link_in rows c) (begun_rows q s d what step)
flight_links q d what c {s = t} (goes_on {s = s} {made = made} m answer flight step) none =
    let parts = not_either (list_any (gives_link c) made) (gives_link c m || false) (sym (list_any-append (gives_link c) made (m ∷ [])) ∙ none) in
    one_step s t d m answer turn.Going c step (not_either (gives_link c m) false parts.1).0 ∙ flight_links q d what c flight parts.0
flight_links q d what c {s = t} (beside {s = s} {x = x} other e tier flight step) none =
    ap (λ (rows : List ClockRow). link_in rows c) (beside_rows s t other e x tier step) ∙ flight_links q d what c flight none

pub unmoved_stay : UnmovedStay
unmoved_stay q s t d what made m answer x flight step c none other = one_step s t d m answer x c step other ∙ flight_links q d what c flight none
