-- Laws on how calls end, and that steps of a call come to the same in states with the same part of the prepare tier.
use Rattle.std.proofs.Common.{◌≡◌, ℕ, ◌+◌, Bool, true, false, cond, ◌||◌, List, ◌∷◌, Option, Some, None, refl, sym, ap, subst, ◌∙◌, length, set}
use Rattle.std.specs.Prelude.{if◌then◌else◌, option_map, option_and_then}
use Rattle.std.specs.Option.{option_map_or}
use Rattle.clk_base.specs.declared.call.Micro.{Micro}
use Rattle.clk_base.specs.declared.call.Micro.TheVariants as micro
use Rattle.clk_base.specs.declared.call.Sleeping.{Sleeping}
use Rattle.clk_base.specs.declared.call.Sleeping.TheVariants as call
use Rattle.clk_base.specs.declared.event.Event.TheVariants as event
use Rattle.clk_base.specs.declared.event.Turn.{Turn}
use Rattle.reg_bank.specs.Registers.{Registers}
use Rattle.clk_model.specs.declared.row.ClockRow.{ClockRow}
use Rattle.clk_model.specs.declared.row.HandleRow.{HandleRow}
use Rattle.clk_model.specs.State.{State, Change, handle_at, requested}
use Rattle.clk_model.specs.Gates.{settled}
use Rattle.clk_model.specs.Begin.{prepared_once_more, held_once_more, request_between}
use Rattle.clk_model.specs.Step.{ended_well, with_range, range_back, unranged, end_of, is_yes, taken, stepped}
use Rattle.clk_model.specs.Machine.{may_step, counted, next}
use Rattle.clk_model.specs.Prep.{without_enables, prep}
use Rattle.clk_model.specs.Laws.PrepSteps.{fits_mux, StepsReadPrep}
use Rattle.clk_model.proofs.FlightLaws.{IsStep}
use Rattle.clk_model.proofs.VetoLaws.{of_change}
use Rattle.clk_model.proofs.BareHandleLaws.{bare, set_bare, at_bare}
use Rattle.clk_model.proofs.AlikeLaws.{Alike, alike_prep, LooksAlike, rest_of, is_beside, looks_alike, same_change}
use Rattle.clk_model.proofs.PlannedSameLaws.{Rest, beside}
use Rattle.clk_model.proofs.PrepStepLaws.{on_alike, raise_alike, poll_alike, power_alike, with_links, write_alike, lower_alike, visit_alike, register_alike, settle_alike, close_alike}
use Rattle.clk_model.proofs.PrepLaws.{prep-settled, prep-steps}

module _ (words : ℕ) (s : State) (new : Registers) (after : List (Option HandleRow)) (x : Rest) (look : LooksAlike words s new after) where
  abbrev t : State
  t = beside s new after x

  -- ---- the end

  with_handles : (hs hs' : List (Option HandleRow)) (cs : List ClockRow) → bare hs' ≡ bare hs
      → Alike (record t { handles = hs'; clocks = cs; change = None }) (record s { handles = hs; clocks = cs; change = None })
  with_handles hs hs' cs same = record {
    defs = refl;
    regs = look.masks;
    clocks = refl;
    order = refl;
    handles = same;
    notifiers = refl;
    prepare_holds = refl;
    change = refl;
    credits = refl;
    ignore_unused = refl;
  }

  abbrev landed : State → State
  landed u = record u { change = None }

  -- what is done with a handle of both
  by_handle : (f : State → HandleRow → State) (n : ℕ) → ((row row' : HandleRow) → without_enables row' ≡ without_enables row → Alike (landed (f t row')) (landed (f s row)))
      → Alike (landed (option_map_or (f t) (handle_at after n) t)) (landed (option_map_or (f s) (handle_at s.handles n) s))
  by_handle f n each = by (handle_at s.handles n) (handle_at after n) (at_bare s.handles after n look.handles) where
    inside : {a b : HandleRow} → Some a ≡ Some b → a ≡ b
    inside e = cc

    by : (o o' : Option HandleRow) → option_map without_enables o' ≡ option_map without_enables o → Alike (landed (option_map_or (f t) o' t)) (landed (option_map_or (f s) o s))
    by None None same = with_handles s.handles after s.clocks look.handles
    by (Some row) (Some row') same = each row row' (inside same)
    by None (Some row') same = absurd cc
    by (Some row) None same = absurd cc

  put_same : (n : ℕ) (row row' : HandleRow) → without_enables row' ≡ without_enables row → bare (set after n (Some row')) ≡ bare (set s.handles n (Some row))
  put_same n row row' same = set_bare s.handles after n (Some row) (Some row') look.handles (ap (λ (h : HandleRow). Some h) same)

  prepared_more : (row row' : HandleRow) → without_enables row' ≡ without_enables row → without_enables (record row' { prepares = row'.prepares + 1 }) ≡ without_enables (record row { prepares = row.prepares + 1 })
  prepared_more row row' same = ap (λ (h : HandleRow). let g : HandleRow = record h { prepares = h.prepares + 1 } in g) same

  held_more : (row row' : HandleRow) → without_enables row' ≡ without_enables row → without_enables (record row' { exclusives = row'.exclusives + 1 }) ≡ without_enables (record row { exclusives = row.exclusives + 1 })
  held_more row row' same = ap (λ (h : HandleRow). let g : HandleRow = record h { exclusives = h.exclusives + 1 } in g) same

  clock_same : (row row' : HandleRow) → without_enables row' ≡ without_enables row → row'.clock ≡ row.clock
  clock_same row row' same = ap (λ (h : HandleRow). h.clock) same

  well_alike : (d : ℕ) (what : Sleeping) → Alike (landed (ended_well t d what)) (landed (ended_well s d what))
  well_alike d (call.Prepare h) = by_handle (λ u row. prepared_once_more u h.number row) h.number
      (λ row row' same. with_handles _ _ s.clocks (put_same h.number (record row { prepares = row.prepares + 1 }) (record row' { prepares = row'.prepares + 1 }) (prepared_more row row' same)))
  well_alike d (call.SetRate h r) = by_handle (λ u row. record u { clocks = requested u.clocks row.clock.0 r }) h.number
      (λ row row' same. subst (λ c. Alike (landed (record t { clocks = requested s.clocks c.0 r })) (landed (record s { clocks = requested s.clocks row.clock.0 r }))) (sym (clock_same row row' same))
      (with_handles s.handles after (requested s.clocks row.clock.0 r) look.handles))
  well_alike d (call.SetRateExclusive h r) = by_handle (λ u row. record (held_once_more u h.number row) { clocks = requested u.clocks row.clock.0 r }) h.number
      (λ row row' same. subst (λ c. Alike (landed (record (held_once_more t h.number row') { clocks = requested s.clocks c.0 r })) (landed (record (held_once_more s h.number row) { clocks = requested s.clocks row.clock.0 r })))
      (sym (clock_same row row' same))
      (with_handles _ _ (requested s.clocks row.clock.0 r) (put_same h.number (record row { exclusives = row.exclusives + 1 }) (record row' { exclusives = row'.exclusives + 1 }) (held_more row row' same))))
  well_alike d (call.SetRange h least most) = by_handle (λ u row. record u { clocks = requested u.clocks row.clock.0 (request_between u.clocks row.clock.0 least most) }) h.number
      (λ row row' same. subst (λ c. Alike (landed (record t { clocks = requested s.clocks c.0 (request_between s.clocks c.0 least most) })) (landed (record s { clocks = requested s.clocks row.clock.0 (request_between s.clocks row.clock.0 least most) })))
      (sym (clock_same row row' same)) (with_handles s.handles after (requested s.clocks row.clock.0 (request_between s.clocks row.clock.0 least most)) look.handles))
  well_alike d (call.Get found) = with_handles s.handles after s.clocks look.handles
  well_alike d (call.Put h) = with_handles s.handles after s.clocks look.handles
  well_alike d (call.Unprepare h) = with_handles s.handles after s.clocks look.handles
  well_alike d (call.GetRate h) = with_handles s.handles after s.clocks look.handles
  well_alike d (call.RoundRate h r) = with_handles s.handles after s.clocks look.handles
  well_alike d (call.SetParent h p) = with_handles s.handles after s.clocks look.handles
  well_alike d (call.GetParent h) = with_handles s.handles after s.clocks look.handles
  well_alike d (call.ExclusiveGet h) = with_handles s.handles after s.clocks look.handles
  well_alike d (call.ExclusivePut h) = with_handles s.handles after s.clocks look.handles
  well_alike d (call.NotifierAdd h id priority policy) = with_handles s.handles after s.clocks look.handles
  well_alike d (call.NotifierRemove h id) = with_handles s.handles after s.clocks look.handles
  well_alike d (call.Probe c) = with_handles s.handles after s.clocks look.handles
  well_alike d call.Sweep = with_handles s.handles after s.clocks look.handles

  ranged : (range : ℕ × ℕ) (o o' : Option HandleRow) → option_map without_enables o' ≡ option_map without_enables o → option_map without_enables (option_map (with_range range) o') ≡ option_map without_enables (option_map (with_range range) o)
  ranged range None None same = refl
  ranged range None (Some h) same = absurd cc
  ranged range (Some h) None same = absurd cc
  ranged range (Some h) (Some h') same = ap (λ (o : Option HandleRow). option_map (λ g. let r : HandleRow = record g { min = range.0; max = range.1 } in r) o) same

  back_same : (what : Sleeping) (range : Option (ℕ × ℕ)) → bare (range_back what range after) ≡ bare (range_back what range s.handles)
  back_same (call.SetRange h least most) (Some range) =
      set_bare s.handles after h.number (option_map (with_range range) (handle_at s.handles h.number)) (option_map (with_range range) (handle_at after h.number)) look.handles
      (ranged range (handle_at s.handles h.number) (handle_at after h.number) (at_bare s.handles after h.number look.handles))
  back_same (call.SetRange h least most) None = look.handles
  back_same (call.Get found) range = look.handles
  back_same (call.Put h) range = look.handles
  back_same (call.Prepare h) range = look.handles
  back_same (call.Unprepare h) range = look.handles
  back_same (call.GetRate h) range = look.handles
  back_same (call.RoundRate h r) range = look.handles
  back_same (call.SetRate h r) range = look.handles
  back_same (call.SetRateExclusive h r) range = look.handles
  back_same (call.SetParent h p) range = look.handles
  back_same (call.GetParent h) range = look.handles
  back_same (call.ExclusiveGet h) range = look.handles
  back_same (call.ExclusivePut h) range = look.handles
  back_same (call.NotifierAdd h id priority policy) range = look.handles
  back_same (call.NotifierRemove h id) range = look.handles
  back_same (call.Probe c) range = look.handles
  back_same call.Sweep range = look.handles

  end_alike : (k : Change) → Alike (end_of t k).0 (end_of s k).0
  end_alike k = by (k.vetoed || k.timed_out) where
    by : (b : Bool) → Alike (landed (cond b (unranged t k) (ended_well t k.driver k.call))) (landed (cond b (unranged s k) (ended_well s k.driver k.call)))
    by true = with_handles (range_back k.call k.range s.handles) (range_back k.call k.range after) s.clocks (back_same k.call k.range)
    by false = well_alike k.driver k.call

  -- ---- each step

  pub step_alike : (k : Change) (answer : Option Bool) (m : Micro) → fits_mux s.defs m ≡ true → Alike (stepped t k answer m).0 (stepped s k answer m).0
  unfolding stepped
  step_alike k answer (micro.Notify kind c id old_ new_) fits = on_alike words s new after x look k
  step_alike k answer (micro.Raise c) fits = raise_alike words s new after x look k c.0
  step_alike k answer (micro.Poll y) fits = poll_alike words s new after x look k y.0 (is_yes answer)
  step_alike k answer (micro.Fall y) fits = power_alike words s new after x look y.0 false _
  step_alike k answer (micro.HoldPrepare c) fits = with_links words s new after x look s.clocks s.order _ s.enable_holds x.enable_holds _
  step_alike k answer (micro.HoldEnable c) fits = with_links words s new after x look s.clocks s.order s.prepare_holds (c.0 ∷ s.enable_holds) (c.0 ∷ x.enable_holds) k
  step_alike k answer (micro.Relink c p) fits = with_links words s new after x look _ _ _ _ _ k
  step_alike k answer (micro.WriteMux c place) fits = write_alike words s new after x look k c.0 place fits
  step_alike k answer (micro.DropEnable c) fits = with_links words s new after x look s.clocks s.order s.prepare_holds _ _ k
  step_alike k answer (micro.DropPrepare c) fits = with_links words s new after x look s.clocks s.order _ s.enable_holds x.enable_holds k
  step_alike k answer (micro.Lower c) fits = lower_alike words s new after x look k c.0
  step_alike k answer (micro.Visit c) fits = visit_alike words s new after x look k c.0
  step_alike k answer (micro.Register c) fits = register_alike words s new after x look k c.0
  step_alike k answer (micro.Settle c) fits = settle_alike words s new after x look k c.0
  step_alike k answer (micro.Close c) fits = close_alike words s new after x look k c.0
  step_alike k answer (micro.Unpower c) fits = power_alike words s new after x look c.0 false k
  step_alike k answer micro.End fits = end_alike k

  pub turn_alike : (k : Change) (answer : Option Bool) (m : Micro) → (stepped t k answer m).1 ≡ (stepped s k answer m).1
  unfolding stepped
  turn_alike k answer (micro.Notify kind c id old_ new_) = refl
  turn_alike k answer (micro.Raise c) = refl
  turn_alike k answer (micro.Poll y) = refl
  turn_alike k answer (micro.Fall y) = refl
  turn_alike k answer (micro.HoldPrepare c) = refl
  turn_alike k answer (micro.HoldEnable c) = refl
  turn_alike k answer (micro.Relink c p) = refl
  turn_alike k answer (micro.WriteMux c place) = refl
  turn_alike k answer (micro.DropEnable c) = refl
  turn_alike k answer (micro.DropPrepare c) = refl
  turn_alike k answer (micro.Lower c) = refl
  turn_alike k answer (micro.Visit c) = refl
  turn_alike k answer (micro.Register c) = refl
  turn_alike k answer (micro.Settle c) = refl
  turn_alike k answer (micro.Close c) = refl
  turn_alike k answer (micro.Unpower c) = refl
  turn_alike k answer micro.End = refl

-- ---- the law

may_take : (s u : State) (d : ℕ) (m : Micro) (answer : Option Bool) (y : Turn) (k : Change) → s.change ≡ Some k → next s d (event.Step m answer) ≡ Some (u, y) → may_step d m answer k ≡ true
unfolding next
may_take s u d m answer y k at step =
    by (may_step d m answer k) refl (ap (λ (o : Option Change). option_and_then (λ k. if may_step d m answer k then Some (counted s (stepped s (taken k) answer m)) else None) o) (sym at) ∙ step) where
      by : (b : Bool) → may_step d m answer k ≡ b → cond b (Some (counted s (stepped s (taken k) answer m))) None ≡ Some (u, y) → b ≡ true
      by true e f = refl
      by false e f = absurd cc

-- what a step has made, before the gates follow, has the same part
pub prep_stepped : (s u : State) (d : ℕ) (m : Micro) (answer : Option Bool) (y : Turn) (k : Change) → IsStep s u d m answer y k → prep u ≡ prep (stepped s (taken k) answer m).0
prep_stepped s u d m answer y k is =
    ap prep (sym is.state) ∙ prep-steps (settled s (stepped s (taken k) answer m).0) (s.steps + 1) ∙ prep-settled s (stepped s (taken k) answer m).0

pub steps_read_prep : StepsReadPrep
unfolding next
steps_read_prep s t u k d m answer y wired same at other fits step =
    let is = of_change s u d m answer y k at step in
    let look = looks_alike (length s.regs) s t wired.valid same in
    let alike = subst (λ (v : State). Alike (stepped v (taken k) answer m).0 (stepped s (taken k) answer m).0) (sym (is_beside s t same))
    (step_alike (length s.regs) s t.regs t.handles (rest_of t) look (taken k) answer m fits) in
    let turns = subst (λ (v : State). (stepped v (taken k) answer m).1 ≡ (stepped s (taken k) answer m).1) (sym (is_beside s t same))
    (turn_alike (length s.regs) s t.regs t.handles (rest_of t) look (taken k) answer m) in
    let v : State = (counted t (stepped t (taken k) answer m)).0 in
    record {
      after = v;
      made = ap (λ (o : Option Change). option_and_then (λ k. if may_step d m answer k then Some (counted t (stepped t (taken k) answer m)) else None) o) (same_change s t k same at other)
          ∙ ap (λ (b : Bool). cond b (Some (counted t (stepped t (taken k) answer m))) None) (may_take s u d m answer y k at step)
          ∙ ap (λ (x : Turn). let o : State × Turn = (v, x) in Some o) (turns ∙ is.answered);
      same = prep-steps (settled t (stepped t (taken k) answer m).0) (t.steps + 1) ∙ prep-settled t (stepped t (taken k) answer m).0 ∙ alike_prep _ _ alike ∙ sym (prep_stepped s u d m answer y k is);
    }
