-- Laws on runs: each event leaves a state at rest, or a call in flight that is safe; so each legal journal leaves each active clock fed.
use Rattle.std.proofs.Common.{◌≡◌, ℕ, ◌+◌, ◌-◌, ◌||◌, Bool, true, false, not, List, [], ◌∷◌, Option, Some, None, refl, sym, ap, subst, ◌∙◌, ◌⊎◌, inl, inr, arith, length, nat_lt}
use Rattle.std.proofs.lemmas.Bool.Decides.{nat_tests}
use Rattle.std.specs.Prelude.{IfSome, is_none, slice_get}
use Rattle.std.specs.List.{AllByRecursion}
use Rattle.clk_base.specs.declared.call.Micro.{Micro}
use Rattle.clk_base.specs.declared.call.Micro.TheVariants as micro
use Rattle.clk_base.specs.declared.call.Sleeping.{Sleeping}
use Rattle.clk_base.specs.declared.call.Sleeping.TheVariants as call
use Rattle.clk_base.specs.declared.event.Event.{Event}
use Rattle.clk_base.specs.declared.event.Event.TheVariants as event
use Rattle.clk_base.specs.declared.event.Turn.{Turn}
use Rattle.clk_base.specs.declared.event.Turn.TheVariants as turn
use Rattle.clk_base.specs.Description.{Description, kind_of, parents_of}
use Rattle.clk_base.specs.Fields.{power_of}
use Rattle.clk_base.specs.Flags.{is_critical}
use Rattle.clk_model.specs.declared.row.HandleRow.{HandleRow}
use Rattle.clk_model.specs.Lists.{is_in}
use Rattle.clk_model.specs.Kinds.{is_powered}
use Rattle.clk_model.specs.State.{State, Change, ChainStep, registered, handle_at}
use Rattle.clk_model.specs.Tree.{path, path_to_be, rooted}
use Rattle.clk_model.specs.Holders.{prepared}
use Rattle.clk_model.specs.Gates.{settled}
use Rattle.clk_model.specs.Round.{wiring, rate_in}
use Rattle.clk_model.specs.Chain.{clock_id, outcome}
use Rattle.clk_model.specs.Script.{unprepared_plls, probe_script, sweep_script}
use Rattle.clk_model.specs.Begin.{put_handle, given, holds_something, prepared_once_more, register, begun}
use Rattle.clk_model.specs.Step.{sets_parent}
use Rattle.clk_model.specs.Machine.{next}
use Rattle.clk_model.specs.Wired.{IsWired}
use Rattle.clk_model.specs.Laws.Plans.{LeadsFrom}
use Rattle.clk_model.specs.Laws.LinksKept.{KeepsLinks}
use Rattle.clk_model.proofs.Members.{not_either}
use Rattle.clk_model.proofs.PlanLaws.{chains_lead}
use Rattle.clk_model.proofs.LinkBegins.{register_defs}
use Rattle.clk_base.specs.Valid.{IsValid}
use Rattle.clk_model.specs.Tier.{is_enable_tier}
use Rattle.clk_model.proofs.LinkLaws.{events_keep_links}
use Rattle.clk_model.proofs.ShapeLaws.{events_keep_shape, no_step}
use Rattle.clk_model.proofs.VetoLaws.{of_change}
use Rattle.clk_model.proofs.FlightLaws.{IsStep, begin_is}
use Rattle.clk_model.proofs.FlightSafeLaws.{step_goes}
use Rattle.clk_model.proofs.BesideSafeLaws.{beside_goes, beside_rests}
use Rattle.clk_model.proofs.Scenes.{scene, GoesWell, uncovered, makes, ends, EnablesPrepared, IsSound, IsAtRest}
use Rattle.clk_model.proofs.ArriveLaws.{IsFit, wired_before, prepared_told}
use Rattle.clk_model.proofs.StandLaws.{Goes}
use Rattle.clk_model.proofs.RestLaws.{alike_put, alike_noted, fit_alike, fit_given, fit_taken}
use Rattle.clk_model.proofs.EndSafeLaws.{prepared_behind, end_rests}
use Rattle.clk_model.proofs.PlanRootLaws.{IsRooted, rooted_is, StepsRooted, plan_rooted}
use Rattle.clk_model.proofs.PlanGoLaws.{PlanOver, planned_goes}
use Rattle.clk_model.proofs.ProbeGoLaws.{Resting, registered_sound, registered_prepares, probe_goes, sweep_goes}
use Rattle.clk_model.proofs.BeginsLaws.{changes_rate, IsPlannedOver, over_itself, over_range, Starts, raising_handle, lowering_handle, planning, reparents, probing, sweeping, Begins, answers, gives, takes, adjusts, prepares, unprepares, notes, registers, goes_on, begins_so}
use Rattle.clk_model.proofs.BeginSafeLaws.{path_powered, resting, rests, begins_going, rate_cuts, parent_cuts, no_prepare, handle_rooted, raise_goes, fit_less, planned_over}
use Rattle.clk_model.proofs.InFlightLaws.{busy_cannot_begin}

-- ---- scripts over a state at rest

-- a chain of one step that gives a clock a rooted parent
pub one_step_leads : (s : State) (c p rate : ℕ) → is_in p (parents_of s.defs c) ≡ true → LeadsFrom (wiring s) c (record { clock = c; rate = rate; parent = Some p } ∷ [])
one_step_leads s c p rate m = record {
  first = refl;
  leads = tt;
  parents = (record { possible = λ q e. let same : p ≡ q = cc in subst (λ (x : ℕ). is_in x (parents_of s.defs c) ≡ true) same m; none = λ e. absurd cc }, tt);
  once = refl;
}

pub one_step_rooted : (s : State) (c p rate : ℕ) → is_in p (parents_of s.defs c) ≡ true → IsRooted s.defs s.clocks c → rooted s.defs s.clocks p ≡ true
    → AllByRecursion (StepsRooted (wiring s)) (record { clock = c; rate = rate; parent = Some p } ∷ [])
one_step_rooted s c p rate m own root = (
  record {
    own = own;
    possible = λ q e. let same : p ≡ q = cc in subst (λ (x : ℕ). is_in x (parents_of s.defs c) ≡ true) same m;
    from = λ q e. let same : p ≡ q = cc in inr (subst (λ (x : ℕ). IsRooted s.defs s.clocks x) same (rooted_is s.defs s.clocks p root));
  },
  tt,
)

pub plan_over : (n : State) (c : ℕ) (ks : List ChainStep) → Resting n → LeadsFrom (wiring n) c ks → AllByRecursion (StepsRooted (wiring n)) ks → PlanOver n c ks
plan_over n c ks rest leads steps = record { fit = rest.fit; prepares = rest.prepares; enables = rest.enables; order = rest.keeps.order; leads = leads; steps = steps }

-- the state and the change that a call goes on with: its script goes well
record GoesFrom (q n : State) (k : Change) : Type 0 where
  fit : IsFit None n
  defs : n.defs ≡ q.defs
  regs : n.regs ≡ q.regs
  empty : k.front ≡ []
  none : k.raised ≡ []
  goes : GoesWell n.defs k.call k.timed_out [] (scene None n) k.left

goes_from : (q n : State) (d : ℕ) (what : Sleeping) (k : Change) → Resting q → Starts q d what n k → GoesFrom q n k
goes_from q n d what k rest (raising_handle h row is at) = record { fit = rest.fit; defs = refl; regs = refl; empty = refl; none = refl; goes = raise_goes q what h row rest is at }
goes_from q n d what k rest (lowering_handle h row is at gives_up) =
    let fit = fit_less q h.number row rest at gives_up in
    record {
      fit = fit;
      defs = refl;
      regs = refl;
      empty = refl;
      none = refl;
      goes = makes (micro.Lower row.clock) refl fit.sound tt (λ c prep. inl prep) (λ c was. uncovered was)
          (ends fit.sound (record { prepares = rest.prepares; enables = rest.enables; late = refl }) tt (λ g e. let no : call.Unprepare h ≡ call.Prepare g = sym is ∙ e in absurd cc));
    }
goes_from q n d what k rest (planning _ number row over x ks range planned_ at is rates) =
    let there = planned_over q n rest planned_ in
    let rest_n = there.0 in
    let own : IsRooted n.defs n.clocks row.clock.0 = rooted_over q n number row rest planned_ at in
    let leads = (chains_lead (wiring n) over row.clock.0 x ks rest_n.keeps.ends rest_n.keeps.links is).leads in
    let steps = plan_rooted (length n.regs) (wiring n) over row.clock.0 x ks rest_n.fit.wired.valid rest_n.keeps.links (λ e p f. (rest_n.fit.sound.tree.linked e p f).1) own is in
    record {
      fit = rest_n.fit;
      defs = there.1;
      regs = there.2;
      empty = refl;
      none = refl;
      goes = planned_goes n what row.clock.0 ks [] (plan_over n row.clock.0 ks rest_n leads steps) (rate_cuts what rates) (no_prepare changes_rate what rates (λ h. refl)) refl refl refl;
    } where
      rooted_over : (s m : State) (i : ℕ) (r : HandleRow) → Resting s → IsPlannedOver s m → handle_at s.handles i ≡ Some r → IsRooted m.defs m.clocks r.clock.0
      rooted_over s m i r resting_ over_itself f = handle_rooted s i r resting_.fit f
      rooted_over s m i r resting_ (over_range j old new adjusted) f = let is_ = handle_rooted s i r resting_.fit f in record { there = is_.there; root = is_.root }
goes_from q n d what k rest (reparents number row p sets at away mux m root) =
    let c : ℕ = row.clock.0 in
    let own = handle_rooted q number row rest.fit at in
    let rate : ℕ = rate_in (outcome (record { clock = c; rate = 0; parent = Some p } ∷ []) (wiring q)) c in
    let ks : List ChainStep = record { clock = c; rate = rate; parent = Some p } ∷ [] in
    record {
      fit = rest.fit;
      defs = refl;
      regs = refl;
      empty = refl;
      none = refl;
      goes = planned_goes q what c ks (micro.Settle (clock_id c) ∷ []) (plan_over q c ks rest (one_step_leads q c p rate m) (one_step_rooted q c p rate m own root)) (parent_cuts what sets)
          (no_prepare sets_parent what sets (λ h. refl)) refl refl refl;
    }
goes_from q n d what k rest (probing c is free) = record {
  fit = rest.fit;
  defs = refl;
  regs = refl;
  empty = refl;
  none = refl;
  goes = subst (λ (w : Sleeping). GoesWell q.defs w false [] (scene None q) (probe_script (register q c.0) c.0)) (sym is) (probe_goes q c rest free);
}
goes_from q n d what k rest (sweeping is) = record {
  fit = rest.fit;
  defs = refl;
  regs = refl;
  empty = refl;
  none = refl;
  goes = subst (λ (w : Sleeping). GoesWell q.defs w false [] (scene None q) (sweep_script q)) (sym is) (sweep_goes q rest);
}

-- ---- beginnings

-- a state is at rest, or a call in flight in it is safe
pub data IsRunning (s : State) : Type 0 where
  quietly : s.change ≡ None → IsAtRest s → IsRunning s
  in_flight : Goes s → IsRunning s

quiet_rest : (t : State) → (t.change ≡ None) × IsAtRest t → IsRunning t
quiet_rest t both = quietly both.0 both.1

register_change : (s : State) (c : ℕ) → ((register s c).change ≡ s.change) × ((register s c).prepare_holds ≡ s.prepare_holds) × ((register s c).enable_holds ≡ s.enable_holds) × ((register s c).regs ≡ s.regs) × ((register s c).handles ≡ s.handles)
unfolding register
register_change s c = (refl, refl, refl, refl, refl)

-- a registration at once leaves a fit state
fit_registered : (q : State) (c : ℕ) → Resting q → registered q.clocks c ≡ false → (not (is_critical q.defs c) || is_none (slice_get (unprepared_plls q (path_to_be q.defs q.regs q.clocks c)) 0)) ≡ true
    → IsWired (length (register q c).regs) (wiring (register q c)) → IsFit None (register q c)
fit_registered q c rest free calm wired =
    let r : State = register q c in
    let same = register_change q c in
    let defs : r.defs ≡ q.defs = register_defs q c in
    record {
      wired = wired;
      sound = subst (λ (d : Description). IsSound d (scene None r)) (sym defs) (registered_sound q (clock_id c) rest free);
      enables = subst (λ (hs : List (Option HandleRow)). EnablesPrepared hs) (sym same.4) rest.fit.enables;
      powers = λ x prep.
          subst (λ (d : Description). IfSome (power_of (kind_of d x)) (λ power. is_powered r.regs power ≡ true)) (sym defs)
          (subst (λ (regs : _). IfSome (power_of (kind_of q.defs x)) (λ power. is_powered regs power ≡ true)) (sym same.3)
          (powered x (registered_prepares q (clock_id c) x rest free (sym (prepared_told None None q r (scene None r) x defs refl) ∙ prep))));
    } where
      critical_calm : (t u : Bool) → t ≡ true → (not t || u) ≡ true → u ≡ true
      critical_calm true u is e = e
      critical_calm false u is e = absurd cc

      powered : (x : ℕ) → (prepared q x ≡ true) ⊎ ((is_critical q.defs c ≡ true) × (is_in x (path_to_be q.defs q.regs q.clocks c) ≡ true)) → IfSome (power_of (kind_of q.defs x)) (λ power. is_powered q.regs power ≡ true)
      powered x (inl was) = rest.fit.powers x was
      powered x (inr new) = path_powered q (path_to_be q.defs q.regs q.clocks c) x rest.fit.powers (critical_calm (is_critical q.defs c) _ new.0 calm) new.1

-- what a call begins with leaves a state at rest, or its change safe
pub begun_runs : (q t : State) (d : ℕ) (what : Sleeping) (y : State × Turn) → IsAtRest q → Resting q → q.change ≡ None → Begins q d what y → record (settled q y.0) { spent = q.spent + 1 } ≡ t
    → IsWired (length t.regs) (wiring t) → IsRunning t
begun_runs q t d what y rest res quiet (answers r) state wired = quiet_rest t (rests q q t rest res.fit refl refl quiet rest.prepares rest.enables state)
begun_runs q t d what y rest res quiet (gives c root) state wired =
    let is = rooted_is q.defs q.clocks c root in
    quiet_rest t (rests q (given q d c).0 t rest (fit_given q _ res.fit rest.enables is.there is.root refl refl) refl refl quiet rest.prepares rest.enables state)
begun_runs q t d what y rest res quiet (takes number row at idle) state wired =
    quiet_rest t (rests q (put_handle q number None) t rest (fit_taken q number row res.fit rest.enables at (unprepared row idle)) refl refl quiet rest.prepares rest.enables state) where
      unprepared : (r : HandleRow) → holds_something r ≡ false → r.prepares ≡ 0
      unprepared r e =
          let first = (not_either (nat_lt 0 r.prepares) (nat_lt 0 r.enables) (not_either (nat_lt 0 r.prepares || nat_lt 0 r.enables) (nat_lt 0 r.exclusives) e).0).0 in
          grind (arith, nat_tests)
begun_runs q t d what y rest res quiet (adjusts number old new r adjusted) state wired =
    quiet_rest t (rests q (put_handle q number (Some new)) t rest
    (fit_alike None q (put_handle q number (Some new)) res.fit (alike_put q number old new adjusted.at adjusted.clock adjusted.prepares adjusted.enables) res.fit.wired) refl refl quiet rest.prepares rest.enables state)
begun_runs q t d what y rest res quiet (prepares number row at calm) state wired =
    quiet_rest t (rests q (prepared_once_more q number row) t rest
    (prepared_behind q number row res.fit rest.enables at (λ c under. path_powered q (path q.clocks row.clock.0) c res.fit.powers calm under)) refl refl quiet rest.prepares rest.enables state)
begun_runs q t d what y rest res quiet (unprepares number row at gives_up) state wired =
    quiet_rest t (rests q (put_handle q number (Some (record row { prepares = row.prepares - 1 }))) t rest (fit_less q number row res at gives_up) refl refl quiet rest.prepares rest.enables state)
begun_runs q t d what y rest res quiet (notes notifiers r) state wired =
    quiet_rest t (rests q (record q { notifiers = notifiers }) t rest (fit_alike None q (record q { notifiers = notifiers }) res.fit (alike_noted q q.change notifiers) res.fit.wired) refl refl quiet rest.prepares rest.enables state)
begun_runs q t d what y rest res quiet (registers c free calm) state wired =
    let same = register_change q c in
    let wired_r = wired_before q (register q c) (subst (λ (v : State). IsWired (length v.regs) (wiring v)) (sym state) wired) in
    quiet_rest t (rests q (register q c) t rest (fit_registered q c res free calm wired_r) (register_defs q c) same.3 (same.0 ∙ quiet) (same.1 ∙ rest.prepares) (same.2 ∙ rest.enables) state)
begun_runs q t d what y rest res quiet (goes_on n k starts_) state wired =
    let from = goes_from q n d what k res starts_ in
    in_flight (begins_going q n t k rest from.fit from.defs from.regs from.empty from.none from.goes state)

-- ---- each event

-- a state of a run: its links are kept, its tree is wired, and it is running
pub record IsRun (s : State) : Type 0 where
  pub keeps : KeepsLinks s
  pub wired : IsWired (length s.regs) (wiring s)
  pub running_ : IsRunning s

wired_after : (s t : State) (d : ℕ) (e : Event) (x : Turn) → KeepsLinks s → IsWired (length s.regs) (wiring s) → next s d e ≡ Some (t, x) → KeepsLinks t × IsWired (length t.regs) (wiring t)
wired_after s t d e x keeps wired step =
    let shape = events_keep_shape s t d e x step in
    let kept = events_keep_links s t d e x keeps step in (
      kept,
      record {
        valid = subst (λ (n : ℕ). IsValid n t.defs) (sym shape.words) (subst (λ (ds : Description). IsValid (length s.regs) ds) (sym shape.defs) wired.valid);
        rows = shape.rows ∙ wired.rows ∙ sym (ap (λ (ds : Description). length ds) shape.defs);
        links = kept.links;
      },
    )

begin_runs : (s t : State) (d : ℕ) (what : Sleeping) (x : Turn) → IsRun s → next s d (event.Begin what) ≡ Some (t, x) → IsWired (length t.regs) (wiring t) → IsRunning t
begin_runs s t d what x run step wired = by_running run.running_ where
  by_running : IsRunning s → IsRunning t
  by_running (in_flight goes) = absurd (busy_cannot_begin s.change goes.change goes.at (begin_is s t d what x step).0)
  by_running (quietly quiet rest) =
      begun_runs s t d what (begun s d what) rest (resting s rest run.keeps) quiet (begins_so s d what) (begin_is s t d what x step).1 wired

step_runs : (s t : State) (d : ℕ) (m : Micro) (answer : Option Bool) (x : Turn) → IsRunning s → next s d (event.Step m answer) ≡ Some (t, x) → IsWired (length t.regs) (wiring t) → IsRunning t
step_runs s t d m answer x (quietly quiet rest) step wired = absurd (no_step s t d m answer x quiet step)
step_runs s t d m answer x (in_flight goes) step wired = by_turn x (of_change s t d m answer x goes.change goes.at step) where
  by_turn : (y : Turn) → IsStep s t d m answer y goes.change → IsRunning t
  by_turn turn.Going is = in_flight (step_goes s t d m answer goes.change is goes.in_call wired)
  by_turn (turn.Done r) is = quiet_rest t (end_rests s t d m answer r goes.change is goes.in_call wired)

tier_runs : (s t : State) (d : ℕ) (e : Event) (x : Turn) → is_enable_tier e ≡ true → IsRunning s → next s d e ≡ Some (t, x) → IsWired (length t.regs) (wiring t) → IsRunning t
tier_runs s t d e x tier (quietly quiet rest) step wired = quiet_rest t (beside_rests s t d e x tier step wired quiet rest)
tier_runs s t d e x tier (in_flight goes) step wired = in_flight (beside_goes s t d e x tier step wired goes)

event_runs : (s t : State) (d : ℕ) (e : Event) (x : Turn) → IsRun s → next s d e ≡ Some (t, x) → IsWired (length t.regs) (wiring t) → IsRunning t
event_runs s t d (event.Enable n) x run step wired = tier_runs s t d (event.Enable n) x refl run.running_ step wired
event_runs s t d (event.Disable n) x run step wired = tier_runs s t d (event.Disable n) x refl run.running_ step wired
event_runs s t d (event.Running n) x run step wired = tier_runs s t d (event.Running n) x refl run.running_ step wired
event_runs s t d (event.Begin what) x run step wired = begin_runs s t d what x run step wired
event_runs s t d (event.Step m answer) x run step wired = step_runs s t d m answer x run.running_ step wired

-- each event of a run leaves a state of a run
pub run_goes_on : (s t : State) (d : ℕ) (e : Event) (x : Turn) → IsRun s → next s d e ≡ Some (t, x) → IsRun t
run_goes_on s t d e x run step =
    let after_ = wired_after s t d e x run.keeps run.wired step in
    record { keeps = after_.0; wired = after_.1; running_ = event_runs s t d e x run step after_.1 }
