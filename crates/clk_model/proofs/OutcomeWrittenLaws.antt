-- A change that ends well leaves the outcome that was planned.
use Rattle.std.proofs.Common.{◌≡◌, ℕ, ◌+◌, ◌||◌, Bool, true, false, not, cond, List, [], ◌∷◌, ◌++◌, Option, Some, refl, sym, ap, subst, ◌∙◌, ◌⊎◌, inl, inr, length, append_assoc, true≢false, None}
use Rattle.std.specs.Prelude.{slice_get, is_none}
use Rattle.std.specs.List.{list_all}
use Rattle.std.specs.Option.{option_map_or}
use Rattle.std.proofs.lemmas.Bool.{and_from}
use Rattle.std.proofs.lemmas.Option.{same_Some}
use Rattle.clk_base.specs.declared.call.Micro.{Micro}
use Rattle.clk_base.specs.declared.call.Micro.TheVariants as micro
use Rattle.clk_base.specs.declared.call.Sleeping.{Sleeping}
use Rattle.clk_base.specs.declared.call.Sleeping.TheVariants as call
use Rattle.clk_base.specs.declared.event.Errno.TheVariants as errno
use Rattle.clk_base.specs.declared.event.Event.{Event}
use Rattle.clk_base.specs.declared.event.Event.TheVariants as event
use Rattle.clk_base.specs.declared.event.Reply.TheVariants as reply
use Rattle.clk_base.specs.declared.event.Turn.{Turn}
use Rattle.clk_base.specs.declared.event.Turn.TheVariants as turn
use Rattle.clk_base.specs.Description.{Description}
use Rattle.clk_base.specs.Valid.{IsValid}
use Rattle.clk_model.specs.State.{State, Change, ChainStep, handle_at, requested}
use Rattle.clk_model.specs.Gates.{settled}
use Rattle.clk_model.specs.Round.{Wiring, wiring}
use Rattle.clk_model.specs.Chain.{outcome}
use Rattle.clk_model.specs.Begin.{prepared_once_more, held_once_more, request_between, begun}
use Rattle.clk_model.specs.Step.{todo, rest_of, left_behind, taken, is_end, end_of, ended_well, unranged, stepped}
use Rattle.clk_model.specs.Script.{planned}
use Rattle.clk_model.specs.Machine.{comes_next, next}
use Rattle.clk_model.specs.Journal.{replay, opening}
use Rattle.clk_model.specs.Prep.{prep}
use Rattle.clk_model.specs.Tier.{is_enable_tier}
use Rattle.clk_model.specs.Wired.{IsWired, IsOrder}
use Rattle.clk_model.specs.Laws.Flight.{Flight, begins, goes_on, beside, script, plan, may_be_put, steps_of}
use Rattle.clk_model.specs.Laws.LinksKept.{HasShapeOf}
use Rattle.clk_model.specs.Laws.Outcomes.{SameSettings, OutcomesWritten, RunsWriteOutcomes}
use Rattle.clk_model.specs.Laws.Paced.{ends_last}
use Rattle.clk_model.specs.Laws.PlansRead.{plans}
use Rattle.clk_model.proofs.ActedLaws.{act, acted, acted_append, leaves_tree, all_leave, same_settings, settings_through, settings_back, writes_fit, acted_same}
use Rattle.clk_model.proofs.CallBeginLaws.{calls_begin_paced}
use Rattle.clk_model.proofs.Cases.{by_handle}
use Rattle.clk_model.proofs.EndCauseLaws.{ends_so, begun_fresh}
use Rattle.clk_model.proofs.FlightLaws.{IsStep, step_is, begin_is, course_of, left_is_end, first_put, front_put, next_is}
use Rattle.clk_model.proofs.LinkLaws.{runs_are_wired}
use Rattle.clk_model.proofs.Members.{both_left, both_right}
use Rattle.clk_model.proofs.OutcomeLaws.{length-slice_set}
use Rattle.clk_model.proofs.PlanScriptLaws.{AllFit, fit_append, planned_fits, planned_acts, AlongPlan, begins_plan}
use Rattle.clk_model.proofs.PrepLaws.{prep-settled, prep-spent, prep-steps}
use Rattle.clk_model.proofs.SettingLaws.{settings_fit}
use Rattle.clk_model.proofs.ShapeLaws.{events_keep_shape}
use Rattle.clk_model.proofs.StepActLaws.{prep_settings, link_row, step_tree, is_light, Adds, step_adds}
use Rattle.clk_model.proofs.StepLaws.{IsAfter, step_after}
use Rattle.clk_model.proofs.TierLaws.{enable_tier_leaves_prep, beside_change}
use Rattle.clk_model.proofs.VetoLaws.{end_state, ends_it}
use Rattle.clk_model.proofs.BalanceLaws.{began}

-- ---- steps that are put in front

light_fits : (defs : Description) (m : Micro) → is_light m ≡ true → (writes_fit defs m ≡ true) × (leaves_tree m ≡ true)
light_fits defs (micro.Notify kind c id old new) e = (refl, refl)
light_fits defs (micro.Raise x) e = (refl, refl)
light_fits defs (micro.Poll x) e = (refl, refl)
light_fits defs (micro.Lower x) e = (refl, refl)
light_fits defs _ e = absurd (true≢false (sym e))

all_light : (defs : Description) (ms : List Micro) → list_all is_light ms ≡ true → AllFit defs ms × (list_all leaves_tree ms ≡ true)
all_light defs [] e = (refl, refl)
all_light defs (m ∷ ms) e =
    let one = light_fits defs m (both_left (is_light m) (list_all is_light ms) e) in
    let rest = all_light defs ms (both_right (is_light m) (list_all is_light ms) e) in
    (and_from (writes_fit defs m) (list_all (writes_fit defs) ms) one.0 rest.0, and_from (leaves_tree m) (list_all leaves_tree ms) one.1 rest.1)

-- what is to be done is its first step and the rest
todo_first : (m : Micro) (front left : List Micro) → comes_next m (front ++ left) ≡ true → front ++ left ≡ m ∷ (rest_of front ++ left_behind front left)
todo_first m [] [] e = absurd (true≢false (sym e))
todo_first m [] (n ∷ ns) e = ap (λ (x : Micro). x ∷ ns) (next_is m n ns e)
todo_first m (n ∷ ns) left e = ap (λ (x : Micro). x ∷ (ns ++ left)) (next_is m n (ns ++ left) e)

-- ---- what a change in flight leads to

-- what is left of a change can be done, and leads to a tree
record LeadsTo (k : Change) (s : State) (target : Wiring) : Type 0 where
  planned : k.missed ≡ None
  fit : AllFit s.defs (todo k)
  same : SameSettings (acted k.chain (todo k) (wiring s)) target

-- a change without veto and timeout leads there
record Carries (target : Wiring) (s : State) : Type 0 where
  now : Change
  at : s.change ≡ Some now
  valid : IsValid (length s.regs) s.defs
  leads : now.vetoed ≡ false → now.timed_out ≡ false → LeadsTo now s target

still_valid : (s t : State) → HasShapeOf s t → IsValid (length s.regs) s.defs → IsValid (length t.regs) t.defs
still_valid s t shape valid =
    subst (λ (defs : Description). IsValid (length t.regs) defs) (sym shape.defs) (subst (λ (n : ℕ). IsValid n s.defs) (sym shape.words) valid)

-- ---- the beginning

carries_begun : (q s : State) (d : ℕ) (what : Sleeping) → IsWired (length q.regs) (wiring q) → IsOrder q.order q.clocks → plans what ≡ true → next q d (event.Begin what) ≡ Some (s, turn.Going)
    → Carries (outcome (plan q d what) (wiring q)) s
unfolding settled
carries_begun q s d what wired ordered planning step =
    let start = begin_is q s d what turn.Going step in
    let found = begins_plan q d what wired planning start.2 in
    let k : Change = found.0 in
    let along : AlongPlan q k = found.2 in
    let b : State = (begun q d what).0 in
    let at : s.change ≡ Some k = sym (ap (λ (u : State). u.change) start.1) ∙ found.1 in
    let fresh = begun_fresh q s d what step k at in
    let preps : prep s ≡ prep b = ap prep (sym start.1) ∙ prep-spent (settled q b) (q.spent + 1) ∙ prep-settled q b in
    let of_b : IsValid (length b.regs) b.defs = subst (λ (w : Wiring). IsValid (length w.regs) w.defs) (sym found.3) wired.valid in
    let like : SameSettings (wiring s) (wiring q) = subst (λ (w : Wiring). SameSettings (wiring s) w) found.3 (prep_settings b s of_b preps) in
    let plan_is : k.chain ≡ plan q d what = ap (λ (o : Option Change). option_map_or (λ j. j.chain) o []) (sym found.1) in
    let steps : todo k ≡ (planned along.over along.steps along.settles).steps = ap (λ (ms : List Micro). ms ++ k.left) fresh.1 ∙ along.left in
    let over_wired : IsWired (length q.regs) (wiring along.over) = subst (IsWired (length q.regs)) (sym along.tree) wired in
    let fit_over : AllFit along.over.defs (planned along.over along.steps along.settles).steps =
    planned_fits along.over along.steps along.settles (settings_fit (length q.regs) along.over.defs over_wired.valid) along.leads.parents along.fits in
    let fit_q : AllFit q.defs (todo k) =
    subst (λ (w : Wiring). AllFit w.defs (todo k)) along.tree (subst (λ (ms : List Micro). AllFit along.over.defs ms) (sym steps) fit_over) in
    let regs_over : length along.over.regs ≡ length q.regs = ap (λ (w : Wiring). length w.regs) along.tree in
    let order_over : IsOrder along.over.order along.over.clocks =
    subst (λ (o : List ℕ). IsOrder o along.over.clocks) (sym along.order) (subst (λ (w : Wiring). IsOrder q.order w.clocks) (sym along.tree) ordered) in
    record {
      now = k;
      at = at;
      valid = still_valid q s (events_keep_shape q s d (event.Begin what) turn.Going step) wired.valid;
      leads = λ calm early. record {
        planned = fresh.2;
        fit = subst (λ (defs : Description). AllFit defs (todo k)) (sym like.defs) fit_q;
        same = settings_through (acted k.chain (todo k) (wiring s)) (acted k.chain (todo k) (wiring q)) (outcome (plan q d what) (wiring q))
            (acted_same (length q.regs) k.chain (todo k) (wiring s) (wiring q) wired.valid fit_q like)
            (subst (λ (w : Wiring). SameSettings w (outcome (plan q d what) (wiring q)))
            (sym (ap (λ (ms : List Micro). acted k.chain ms (wiring q)) steps
            ∙ ap (λ (ks : List ChainStep). acted ks (planned along.over along.steps along.settles).steps (wiring q)) along.chain
            ∙ ap (λ (w : Wiring). acted along.steps (planned along.over along.steps along.settles).steps w) (sym along.tree)
            ∙ planned_acts along.over along.clock along.steps along.settles (subst (λ (n : ℕ). IsWired n (wiring along.over)) (sym regs_over) over_wired) order_over along.leads along.muxes along.settling
            (sym along.vetoed ∙ calm)
            ∙ ap (λ (w : Wiring). outcome along.steps w) along.tree
            ∙ ap (λ (ks : List ChainStep). outcome ks (wiring q)) (sym along.chain ∙ plan_is)))
            (same_settings (outcome (plan q d what) (wiring q))));
      };
    }

-- ---- steps

carries_beside : (target : Wiring) (s t : State) (d : ℕ) (e : Event) (x : Turn) → is_enable_tier e ≡ true → Carries target s → next s d e ≡ Some (t, x) → Carries target t
carries_beside target s t d e x tier carries step =
    let like = prep_settings s t carries.valid (enable_tier_leaves_prep s t d e x tier step) in
    record {
      now = carries.now;
      at = beside_change s t d e x tier step ∙ carries.at;
      valid = still_valid s t (events_keep_shape s t d e x step) carries.valid;
      leads = λ calm early.
          let leads = carries.leads calm early in
          record {
            planned = leads.planned;
            fit = subst (λ (defs : Description). AllFit defs (todo carries.now)) (sym like.defs) leads.fit;
            same = settings_through (acted carries.now.chain (todo carries.now) (wiring t)) (acted carries.now.chain (todo carries.now) (wiring s)) target
                (acted_same (length s.regs) carries.now.chain (todo carries.now) (wiring t) (wiring s) carries.valid leads.fit like) leads.same;
          };
    }

-- one step leads on
leads_on : (target : Wiring) (s t : State) (d : ℕ) (m : Micro) (answer : Option Bool) (k k' : Change) → IsValid (length s.regs) s.defs → IsValid (length t.regs) t.defs → t.defs ≡ s.defs
    → IsStep s t d m answer turn.Going k → Adds (taken k) (Some k') → k'.chain ≡ k.chain → k'.timed_out ≡ false → k'.missed ≡ k.missed → LeadsTo k s target → LeadsTo k' t target
leads_on target s t d m answer k k' valid valid' defs is adds chain early missed leads = by adds.either where
  rest : List Micro
  rest = rest_of k.front ++ left_behind k.front k.left

  own : adds.after ≡ k'
  own = same_Some adds.after k' (sym adds.is)

  first : todo k ≡ m ∷ (rest_of k.front ++ left_behind k.front k.left)
  first = todo_first m k.front k.left is.first

  fit_all : AllFit s.defs (m ∷ (rest_of k.front ++ left_behind k.front k.left))
  fit_all = subst (λ (ms : List Micro). AllFit s.defs ms) (todo_first m k.front k.left is.first) leads.fit

  y : State
  y = (stepped s (taken k) answer m).0

  by : (adds.after.timed_out ≡ true) ⊎ ((added : List Micro) × (adds.after.front ≡ added ++ (taken k).front) × (list_all is_light added ≡ true) × (adds.after.left ≡ (taken k).left)) → LeadsTo k' t target
  by (inl late) = absurd (true≢false (sym late ∙ ap (λ (l : Change). l.timed_out) own ∙ early))
  by (inr more) =
      let light = all_light s.defs more.0 more.2 in
      let fit_rest : AllFit s.defs rest = both_right (writes_fit s.defs m) (list_all (writes_fit s.defs) rest) fit_all in
      let fit_m : writes_fit s.defs m ≡ true = both_left (writes_fit s.defs m) (list_all (writes_fit s.defs) rest) fit_all in
      let ahead : todo k' ≡ more.0 ++ rest =
      ap todo (sym own) ∙ ap (λ (ms : List Micro). ms ++ adds.after.left) more.1 ∙ ap (λ (ms : List Micro). (more.0 ++ rest_of k.front) ++ ms) more.3 ∙ append_assoc more.0 (rest_of k.front) (left_behind k.front k.left) in
      let preps : prep t ≡ prep y = ap prep (sym is.state) ∙ prep-steps (settled s y) (s.steps + 1) ∙ prep-settled s y in
      let like : SameSettings (wiring t) (act k.chain m (wiring s)) =
      settings_through (wiring t) (wiring y) (act k.chain m (wiring s)) (settings_back (wiring y) (wiring t) (prep_settings t y valid' (sym preps))) (step_tree s (taken k) answer m valid fit_m leads.planned is.answered) in
      let fit_act : AllFit (act k.chain m (wiring s)).defs rest = subst (λ (ds : Description). AllFit ds rest) (sym defs ∙ like.defs) fit_rest in
      let valid_act : IsValid (length s.regs) (act k.chain m (wiring s)).defs = subst (λ (ds : Description). IsValid (length s.regs) ds) (sym defs ∙ like.defs) valid in
      record {
        planned = missed ∙ leads.planned;
        fit = subst (λ (ds : Description). AllFit ds (todo k')) (sym defs) (subst (λ (ms : List Micro). AllFit s.defs ms) (sym ahead) (fit_append s.defs more.0 rest light.0 fit_rest));
        same = subst (λ (w : Wiring). SameSettings w target)
            (sym (ap (λ (ms : List Micro). acted k'.chain ms (wiring t)) ahead
            ∙ ap (λ (ks : List ChainStep). acted ks (more.0 ++ rest) (wiring t)) chain
            ∙ acted_append k.chain more.0 rest (wiring t)
            ∙ ap (λ (w : Wiring). acted k.chain rest w) (all_leave k.chain more.0 (wiring t) light.1)))
            (settings_through (acted k.chain rest (wiring t)) (acted k.chain rest (act k.chain m (wiring s))) target
            (acted_same (length s.regs) k.chain rest (wiring t) (act k.chain m (wiring s)) valid_act fit_act like)
            (subst (λ (ms : List Micro). SameSettings (acted k.chain ms (wiring s)) target) first leads.same));
      }

carries_step : (target : Wiring) (s t : State) (d : ℕ) (m : Micro) (answer : Option Bool) → Carries target s → next s d (event.Step m answer) ≡ Some (t, turn.Going) → Carries target t
unfolding settled
carries_step target s t d m answer carries step =
    let found = step_is s t d m answer turn.Going step in
    let own : found.0 ≡ carries.now = same_Some found.0 carries.now (sym found.1.at ∙ carries.at) in
    let is : IsStep s t d m answer turn.Going carries.now = subst (λ (l : Change). IsStep s t d m answer turn.Going l) own found.1 in
    let after = step_after s (taken carries.now) answer m is.answered in
    let kept : IsAfter m (taken carries.now) after.0 = after.2 in
    let shape = events_keep_shape s t d (event.Step m answer) turn.Going step in
    let valid' = still_valid s t shape carries.valid in
    let adds : Adds (taken carries.now) (Some after.0) = subst (Adds (taken carries.now)) after.1 (step_adds s (taken carries.now) answer m is.answered) in
    record {
      now = after.0;
      at = sym (ap (λ (u : State). u.change) is.state) ∙ after.1;
      valid = valid';
      leads = λ calm early.
          leads_on target s t d m answer carries.now after.0 carries.valid valid' shape.defs is adds kept.chain early
          (elim kept.left [ inl same ↦ same.2 | inr late ↦ absurd (true≢false (sym late.2 ∙ early)) ])
          (carries.leads (sym kept.vetoed ∙ calm) (elim kept.left [ inl same ↦ sym same.1 ∙ early | inr late ↦ absurd (true≢false (sym late.2 ∙ early)) ]));
    }

-- over the whole flight
carries_on : (q : State) (d : ℕ) (what : Sleeping) {s : State} {made : List Micro} → IsWired (length q.regs) (wiring q) → IsOrder q.order q.clocks → plans what ≡ true → Flight q d what s made
    → Carries (outcome (plan q d what) (wiring q)) s
carries_on q d what {s = s} wired ordered planning (begins step) = carries_begun q s d what wired ordered planning step
carries_on q d what {s = t} wired ordered planning (goes_on {s = s} m answer flight step) =
    carries_step (outcome (plan q d what) (wiring q)) s t d m answer (carries_on q d what wired ordered planning flight) step
carries_on q d what {s = t} wired ordered planning (beside {s = s} {x = x} other e tier flight step) =
    carries_beside (outcome (plan q d what) (wiring q)) s t other e x tier (carries_on q d what wired ordered planning flight) step

-- ---- the end

-- the end of a script is its last step
last_behind : (xs ys : List Micro) → ends_last (xs ++ ys) ≡ true → ends_last ys ≡ true
last_behind [] ys e = e
last_behind (x ∷ xs) ys e = last_behind xs ys (both_right (not (is_end x) || is_none (slice_get (xs ++ ys) 0)) (ends_last (xs ++ ys)) e)

script_ends : (q s : State) (d : ℕ) (what : Sleeping) → next q d (event.Begin what) ≡ Some (s, turn.Going) → ends_last (script q d what) ≡ true
unfolding settled
script_ends q s d what step =
    let found = calls_begin_paced q s d what step in
    let start = begin_is q s d what turn.Going step in
    let change : (begun q d what).0.change ≡ Some found.0 = ap (λ (u : State). u.change) start.1 ∙ found.1.change in
    ap (λ (o : Option Change). ends_last (option_map_or (λ k. k.left) o [])) change ∙ found.1.paced.last

nothing_behind : (rest : List Micro) → ends_last (micro.End ∷ rest) ≡ true → rest ≡ []
nothing_behind [] e = refl
nothing_behind (m ∷ rest) e = absurd (true≢false (sym e))

-- where the end comes next nothing else is left
only_end : (front left : List Micro) → first_put front ≡ true → ends_last left ≡ true → comes_next micro.End (front ++ left) ≡ true → front ++ left ≡ micro.End ∷ []
only_end [] [] put last first = absurd (true≢false (sym first))
only_end [] (n ∷ ns) put last first =
    let is : n ≡ micro.End = next_is micro.End n ns first in
    ap (λ (x : Micro). x ∷ ns) is ∙ ap (λ (ms : List Micro). micro.End ∷ ms) (nothing_behind ns (ap (λ (x : Micro). ends_last (x ∷ ns)) (sym is) ∙ last))
only_end (n ∷ ns) left put last first =
    let is : n ≡ micro.End = next_is micro.End n (ns ++ left) first in
    absurd (true≢false (sym put ∙ ap may_be_put is))

-- the reply tells the flags
flags_fine : (veto late : Bool) → cond veto (reply.Refused errno.EBUSY) (cond late (reply.Refused errno.ETIMEDOUT) reply.Fine) ≡ reply.Fine → (veto ≡ false) × (late ≡ false)
flags_fine true late e = absurd cc
flags_fine false true e = absurd cc
flags_fine false false e = (refl, refl)

row_settings : (s : State) (c r : ℕ) → SameSettings (wiring (record s { clocks = requested s.clocks c r })) (wiring s)
row_settings s c r = record {
  defs = refl;
  rows = length-slice_set s.clocks c _;
  words = refl;
  links = link_row s.clocks c _ refl;
  fields = λ d f at. refl;
}

-- what a call that went well leaves beside the tree are last requests and handles
ended_settings : (s : State) (d : ℕ) (what : Sleeping) → SameSettings (wiring (ended_well s d what)) (wiring s)
ended_settings s d (call.Prepare h) = by_handle (λ u. SameSettings (wiring u) (wiring s)) (handle_at s.handles h.number) (prepared_once_more s h.number) s (same_settings (wiring s)) (λ row. same_settings (wiring s))
ended_settings s d (call.SetRate h x) =
    by_handle (λ u. SameSettings (wiring u) (wiring s)) (handle_at s.handles h.number) (λ row. record s { clocks = requested s.clocks row.clock.0 x }) s (same_settings (wiring s)) (λ row. row_settings s row.clock.0 x)
ended_settings s d (call.SetRateExclusive h x) =
    by_handle (λ u. SameSettings (wiring u) (wiring s)) (handle_at s.handles h.number) (λ row. record (held_once_more s h.number row) { clocks = requested s.clocks row.clock.0 x }) s (same_settings (wiring s))
    (λ row. row_settings s row.clock.0 x)
ended_settings s d (call.SetRange h least most) =
    by_handle (λ u. SameSettings (wiring u) (wiring s)) (handle_at s.handles h.number)
    (λ row. record s { clocks = requested s.clocks row.clock.0 (request_between s.clocks row.clock.0 least most) }) s (same_settings (wiring s))
    (λ row. row_settings s row.clock.0 (request_between s.clocks row.clock.0 least most))
ended_settings s d _ = same_settings (wiring s)

end_settings : (s : State) (k : Change) → k.vetoed ≡ false → k.timed_out ≡ false → SameSettings (wiring (end_of s k).0) (wiring s)
end_settings s k calm early =
    subst (λ (t : Bool). SameSettings (wiring (cond t (unranged s k) (ended_well s k.driver k.call))) (wiring s)) (sym (ap (λ (t : Bool). t || k.timed_out) calm ∙ early)) (ended_settings s k.driver k.call)

-- a change that ends well leaves the outcome of its plan
pub outcomes_written : OutcomesWritten
outcomes_written q s t d what made m answer wired ordered planning flight step =
    let carries = carries_on q d what wired ordered planning flight in
    let course = course_of q d what flight in
    let k : Change = carries.now in
    let found = step_is s t d m answer (turn.Done reply.Fine) step in
    let own : found.0 ≡ k = same_Some found.0 k (sym found.1.at ∙ carries.at) in
    let is : IsStep s t d m answer (turn.Done reply.Fine) k = subst (λ (l : Change). IsStep s t d m answer (turn.Done reply.Fine) l) own found.1 in
    let flags = flags_fine k.vetoed k.timed_out (ends_so s t d m answer reply.Fine k is) in
    let leads = carries.leads flags.0 flags.1 in
    let last : m ≡ micro.End = ends_it s (taken k) answer m reply.Fine is.answered in
    let same_now : course.now ≡ k = same_Some course.now k (sym course.at ∙ carries.at) in
    let behind = left_is_end what (script q d what) course.left (ap (λ (l : Change). l.timed_out) same_now ∙ flags.1) in
    let begun_at = began q d what flight in
    let left_last : ends_last k.left ≡ true =
    ap (λ (l : Change). ends_last l.left) (sym same_now) ∙ last_behind behind.0 course.now.left (ap ends_last (sym behind.1) ∙ script_ends q begun_at.0 d what begun_at.1) in
    let put : first_put k.front ≡ true = ap (λ (l : Change). first_put l.front) (sym same_now) ∙ front_put course.now course.front in
    let only : todo k ≡ micro.End ∷ [] = only_end k.front k.left put left_last (ap (λ (n : Micro). comes_next n (todo k)) (sym last) ∙ is.first) in
    let y : State = (stepped s (taken k) answer m).0 in
    let shape = events_keep_shape s t d (event.Step m answer) (turn.Done reply.Fine) step in
    let valid' = still_valid s t shape carries.valid in
    let preps : prep t ≡ prep y = ap prep (sym is.state) ∙ prep-steps (settled s y) (s.steps + 1) ∙ prep-settled s y in
    let of_end : SameSettings (wiring y) (wiring s) =
    subst (λ (u : State). SameSettings (wiring u) (wiring s)) (sym (end_state s (taken k) answer m last)) (end_settings s (taken k) flags.0 flags.1) in
    let like : SameSettings (wiring t) (wiring s) = settings_through (wiring t) (wiring y) (wiring s) (settings_back (wiring y) (wiring t) (prep_settings t y valid' (sym preps))) of_end in
    settings_through (wiring t) (wiring s) (outcome (plan q d what) (wiring q)) like (subst (λ (ms : List Micro). SameSettings (acted k.chain ms (wiring s)) (outcome (plan q d what) (wiring q))) only leads.same)

-- so it is in each run
pub runs_write_outcomes : RunsWriteOutcomes
runs_write_outcomes defs regs ignore_unused credits journal t m answer valid call planning step =
    let q : State = replay (opening defs regs ignore_unused credits) call.before in
    let known = runs_are_wired defs regs ignore_unused credits call.before valid in
    outcomes_written q (replay (opening defs regs ignore_unused credits) journal) t call.first.driver call.what (steps_of call.since) m answer
    (subst (λ (n : ℕ). IsWired n (wiring q)) (sym known.size) known.wired) known.order planning call.flight step
