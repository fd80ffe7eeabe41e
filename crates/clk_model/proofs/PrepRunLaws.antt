-- Laws on runs: what a call in flight writes in the field of a mux fits it, a sweep takes its own steps alone; so steps of runs come to the same by the prepare tier's part.
use Rattle.std.proofs.Common.{◌≡◌, ℕ, ◌+◌, ◌-◌, ◌||◌, ◌⊎◌, inl, inr, Bool, true, false, not, cond, List, [], ◌∷◌, ◌++◌, Option, Some, None, refl, sym, ap, subst, ◌∙◌, length, nat_le, nat_lt, flat_map, map}
use Rattle.std.specs.List.{list_any, list_all}
use Rattle.std.specs.Prelude.{reverse, slice_get}
use Rattle.std.specs.Option.{option_map_or}
use Rattle.clk_base.specs.declared.call.Micro.{Micro}
use Rattle.clk_base.specs.declared.call.Micro.TheVariants as micro
use Rattle.clk_base.specs.declared.call.Sleeping.{Sleeping}
use Rattle.clk_base.specs.declared.call.Sleeping.TheVariants as call
use Rattle.clk_base.specs.declared.event.Errno.TheVariants as errno
use Rattle.clk_base.specs.declared.event.Event.TheVariants as event
use Rattle.clk_base.specs.declared.event.Reply.TheVariants as reply
use Rattle.clk_base.specs.declared.event.Turn.{Turn}
use Rattle.clk_base.specs.declared.event.Turn.TheVariants as turn
use Rattle.clk_base.specs.Description.{Description}
use Rattle.clk_base.specs.Flags.{is_critical}
use Rattle.clk_model.specs.State.{State, Change}
use Rattle.clk_model.specs.Tree.{path, link_given}
use Rattle.clk_model.specs.Holders.{prepared}
use Rattle.clk_model.specs.Round.{Wiring, wiring}
use Rattle.clk_model.specs.Chain.{clock_id}
use Rattle.clk_model.specs.Gates.{settled}
use Rattle.clk_model.specs.Script.{planned, adoptable, adoption_order, adoption, probe_script, sweep_script}
use Rattle.clk_model.specs.Begin.{done, refused, pick, most_credits, weight_of, change_of, register, begun}
use Rattle.clk_model.specs.Lists.{without_one, without}
use Rattle.clk_model.specs.Notices.{abort_list}
use Rattle.clk_model.specs.Step.{taken, todo, is_end, on, powered, missed_by, cut_short, close, sets_parent, aborts_of, timed_out, to_raise, most_polls, raise_one, poll, to_lower, lower_one, is_yes, stepped}
use Rattle.clk_model.specs.Machine.{comes_next, next}
use Rattle.clk_model.specs.Journal.{replay, opening}
use Rattle.clk_model.specs.Prep.{is_sweep}
use Rattle.clk_model.specs.Wired.{IsWired}
use Rattle.clk_model.specs.Laws.Flight.{Flight, begins, goes_on, beside, may_be_put, script, steps_of}
use Rattle.clk_model.specs.Laws.PlansRead.{plans}
use Rattle.clk_model.specs.Laws.PrepSteps.{fits_mux, is_of_sweep, RunsStepByPrep, RunsSweepByPrep}
use Rattle.clk_model.proofs.ActedLaws.{writes_fit}
use Rattle.clk_model.proofs.BalanceLaws.{began}
use Rattle.clk_model.proofs.BeginLaws.{HasScript, raised_alone, lowered_alone, by_rate, by_parent, by_registration, by_sweep, sweep_has_no, begun_going}
use Rattle.clk_model.proofs.BeginLaws as begin
use Rattle.clk_model.proofs.FeedLaws.{NoFeeding}
use Rattle.clk_model.proofs.FlightLaws.{step_is, begin_is, left_is_part, none_part, first_put, front_put, next_is, taken_none, first_none, course_of}
use Rattle.clk_model.proofs.LinkLaws.{runs_are_wired}
use Rattle.clk_model.proofs.Members.{both_left, both_right}
use Rattle.clk_model.proofs.NoneLaws.{none_append, none_map, none_flat_map, none_if}
use Rattle.clk_model.proofs.PlanScriptLaws.{AllFit, planned_fits, begins_plan}
use Rattle.clk_model.proofs.ScriptLaws.{none_cut}
use Rattle.clk_model.proofs.SettingLaws.{settings_fit}
use Rattle.clk_model.proofs.TierLaws.{beside_change}
use Rattle.clk_model.proofs.VetoLaws.{of_change}
use Rattle.clk_model.proofs.PrepEndLaws.{steps_read_prep}
use Rattle.clk_model.proofs.PrepSweepLaws.{sweeps_read_prep}

-- ---- what is written in the field of a mux

-- whether a step writes in the field of a mux what doesn't fit
abbrev misfits : Description → Micro → Bool
misfits defs m = not (fits_mux defs m)

fit_kept : (defs : Description) (m : Micro) → writes_fit defs m ≡ true → misfits defs m ≡ false
fit_kept defs (micro.WriteMux c place) e = ap not e
fit_kept defs _ e = refl

all_kept : (defs : Description) (ms : List Micro) → AllFit defs ms → list_any (misfits defs) ms ≡ false
all_kept defs [] e = refl
all_kept defs (m ∷ ms) e =
    ap (λ (b : Bool). b || list_any (misfits defs) ms) (fit_kept defs m (both_left (writes_fit defs m) (list_all (writes_fit defs) ms) e))
    ∙ all_kept defs ms (both_right (writes_fit defs m) (list_all (writes_fit defs) ms) e)

-- what keeps a clock running writes in none
feeding_fits : (defs : Description) → NoFeeding (misfits defs)
feeding_fits defs (micro.WriteMux c place) e = absurd cc
feeding_fits defs _ e = refl

-- a registration writes in none
adoption_fits : (defs : Description) (s : State) (a : ℕ) → list_any (misfits defs) (adoption s a) ≡ false
adoption_fits defs s a = one (link_given s.defs s.regs s.clocks a) where
  one : (o : Option ℕ) → list_any (misfits defs) (option_map_or (λ p.
      cond (prepared s a) (micro.Raise (clock_id p) ∷ micro.HoldPrepare (clock_id p) ∷ micro.HoldEnable (clock_id p) ∷ micro.HoldEnable (clock_id a)
      ∷ micro.Relink (clock_id a) (clock_id p) ∷ micro.DropEnable (clock_id a) ∷ micro.Settle (clock_id a) ∷ [])
      (micro.Relink (clock_id a) (clock_id p) ∷ micro.Settle (clock_id a) ∷ [])) o []) ≡ false
  one None = refl
  one (Some p) = none_if (misfits defs) (prepared s a) _ _ refl refl

probe_fits : (defs : Description) (s : State) (c : ℕ) → list_any (misfits defs) (probe_script s c) ≡ false
unfolding probe_script
probe_fits defs s c =
    let first : List Micro = cond (is_critical s.defs c) (micro.Raise (clock_id c) ∷ []) [] in
    let adoptions : List Micro = flat_map (adoption s) (adoption_order (length (adoptable s)) s (adoptable s)) in
    none_append (misfits defs) ((first ++ micro.Register (clock_id c) ∷ []) ++ adoptions) (micro.End ∷ [])
    (none_append (misfits defs) (first ++ micro.Register (clock_id c) ∷ []) adoptions
    (none_append (misfits defs) first (micro.Register (clock_id c) ∷ []) (none_if (misfits defs) (is_critical s.defs c) (micro.Raise (clock_id c) ∷ []) [] refl refl) refl)
    (none_flat_map (misfits defs) (adoption s) (adoption_order (length (adoptable s)) s (adoptable s)) (adoption_fits defs s))) refl

plans_both : (what : Sleeping) → begin.plans what ≡ plans what
plans_both (call.SetRate h x) = refl
plans_both (call.SetRateExclusive h x) = refl
plans_both (call.SetRange h least most) = refl
plans_both (call.SetParent h p) = refl
plans_both _ = refl

other_fits : (q n : State) (k : Change) → plans k.call ≡ false → HasScript q n k → list_any (misfits q.defs) k.left ≡ false
other_fits q n k none (raised_alone x left) = ap (λ (ms : List Micro). list_any (misfits q.defs) ms) left
other_fits q n k none (lowered_alone x left) = ap (λ (ms : List Micro). list_any (misfits q.defs) ms) left
other_fits q n k none (by_rate is left order tree) = absurd (let no : true ≡ false = sym is ∙ plans_both k.call ∙ none in cc)
other_fits q n k none (by_parent is c left order tree) = absurd (let no : true ≡ false = sym is ∙ plans_both k.call ∙ none in cc)
other_fits q n k none (by_registration c is left) = ap (λ (ms : List Micro). list_any (misfits q.defs) ms) left ∙ probe_fits q.defs (register q c.0) c.0
other_fits q n k none (by_sweep left) = ap (λ (ms : List Micro). list_any (misfits q.defs) ms) left ∙ sweep_has_no (misfits q.defs) q (feeding_fits q.defs) (λ c. refl) (λ c. refl) refl

-- each script of a call that goes on
script_fits : (q : State) (d : ℕ) (what : Sleeping) → IsWired (length q.regs) (wiring q) → (begun q d what).1 ≡ turn.Going → list_any (misfits q.defs) (script q d what) ≡ false
script_fits q d what wired going = by (plans what) refl where
  by : (b : Bool) → plans what ≡ b → list_any (misfits q.defs) (script q d what) ≡ false
  by true is =
      let found = begins_plan q d what wired is going in
      let along = found.2 in
      let over_wired : IsWired (length q.regs) (wiring along.over) = subst (IsWired (length q.regs)) (sym along.tree) wired in
      let fit_over : AllFit along.over.defs (planned along.over along.steps along.settles).steps =
      planned_fits along.over along.steps along.settles (settings_fit (length q.regs) along.over.defs over_wired.valid) along.leads.parents along.fits in
      let fit_q : AllFit q.defs (planned along.over along.steps along.settles).steps = subst (λ (w : Wiring). AllFit w.defs (planned along.over along.steps along.settles).steps) along.tree fit_over in
      ap (λ (o : Option Change). list_any (misfits q.defs) (option_map_or (λ k. k.left) o [])) found.1 ∙ ap (λ (ms : List Micro). list_any (misfits q.defs) ms) along.left
      ∙ all_kept q.defs (planned along.over along.steps along.settles).steps fit_q
  by false none =
      let found = (begun_going q d what).from going in
      ap (λ (y : State). list_any (misfits q.defs) (option_map_or (λ k. k.left) y.change [])) found.2
      ∙ other_fits q found.0 found.1 (ap plans found.3.call ∙ none) found.3.has

put_fits : (defs : Description) (m : Micro) → may_be_put m ≡ true → misfits defs m ≡ false
put_fits defs (micro.WriteMux c place) e = absurd cc
put_fits defs _ e = refl

-- a step that comes next in a change whose front was put there, and whose script fits
next_fits : (defs : Description) (m : Micro) (front left : List Micro) → comes_next m (front ++ left) ≡ true → first_put front ≡ true → list_any (misfits defs) left ≡ false → misfits defs m ≡ false
next_fits defs m [] left e put none = first_none (misfits defs) m left e none
next_fits defs m (n ∷ ns) left e put none = put_fits defs m (ap may_be_put (sym (next_is m n (ns ++ left) e)) ∙ put)

kept_fits : (b : Bool) → not b ≡ false → b ≡ true
kept_fits true e = refl
kept_fits false e = absurd cc

-- so does each step of a flight
pub flight_fits : (q s t : State) (d : ℕ) (what : Sleeping) (made : List Micro) (m : Micro) (answer : Option Bool) (x : Turn) → IsWired (length q.regs) (wiring q) → s.defs ≡ q.defs → Flight q d what s made
    → next s d (event.Step m answer) ≡ Some (t, x) → fits_mux s.defs m ≡ true
flight_fits q s t d what made m answer x wired defs flight step =
    let course = course_of q d what flight in
    let found = step_is s t d m answer x step in
    let own : found.0 ≡ course.now = same_Some found.0 course.now (sym found.1.at ∙ course.at) in
    let first : comes_next m (todo course.now) ≡ true = ap (λ (k : Change). comes_next m (todo k)) (sym own) ∙ found.1.first in
    let begun_at = began q d what flight in
    let whole = script_fits q d what wired (begin_is q begun_at.0 d what turn.Going begun_at.1).2 in
    let none = none_part (misfits q.defs) (left_is_part what (script q d what) course.left) whole in
    subst (λ (ds : Description). fits_mux ds m ≡ true) (sym defs)
    (kept_fits (fits_mux q.defs m) (next_fits q.defs m course.now.front course.now.left first (front_put course.now course.front) none)) where
      same_Some : (a b : Change) → Some a ≡ Some b → a ≡ b
      same_Some a b e = cc

-- ---- runs

pub runs_step_by_prep : RunsStepByPrep
runs_step_by_prep defs regs ignore_unused credits journal t u m answer x valid call same other step =
    let start : State = opening defs regs ignore_unused credits in
    let q : State = replay start call.before in
    let s : State = replay start journal in
    let before = runs_are_wired defs regs ignore_unused credits call.before valid in
    let known = runs_are_wired defs regs ignore_unused credits journal valid in
    let wired_q : IsWired (length q.regs) (wiring q) = subst (λ (n : ℕ). IsWired n (wiring q)) (sym before.size) before.wired in
    let wired_s : IsWired (length s.regs) (wiring s) = subst (λ (n : ℕ). IsWired n (wiring s)) (sym known.size) known.wired in
    let course = course_of q call.first.driver call.what call.flight in
    steps_read_prep s t u course.now call.first.driver m answer x wired_s same course.at (ap is_sweep course.call ∙ other)
    (flight_fits q s u call.first.driver call.what (steps_of call.since) m answer x wired_q (known.same ∙ sym before.same) call.flight step) step

-- ---- sweeps

-- whether a step is none of a sweep
abbrev strays : Micro → Bool
strays m = not (is_of_sweep m)

feeding_is_own : NoFeeding strays
feeding_is_own (micro.Raise x) e = refl
feeding_is_own (micro.HoldPrepare x) e = refl
feeding_is_own (micro.HoldEnable x) e = refl
feeding_is_own (micro.DropEnable x) e = refl
feeding_is_own (micro.DropPrepare x) e = refl
feeding_is_own (micro.Lower x) e = refl
feeding_is_own _ e = absurd cc

-- a sweep in flight: what comes next and what is left are steps of a sweep, and it isn't called off
record SweepCourse (s : State) : Type 0 where
  now : Change
  at : s.change ≡ Some now
  call_ : is_sweep now.call ≡ true
  first : list_any strays now.front ≡ false
  left : list_any strays now.left ≡ false
  vetoed : now.vetoed ≡ false

-- it begins so
pub sweep_state : (q : State) (d : ℕ) → (begun q d call.Sweep).1 ≡ turn.Going → (begun q d call.Sweep).0 ≡ record q { change = Some (change_of q d call.Sweep (sweep_script q)) }
unfolding begun pick
sweep_state q d = by q.ignore_unused (nat_lt most_credits (q.credits + q.steps + weight_of q (change_of q d call.Sweep (sweep_script q)))) where
  by : (a b : Bool) → (pick a (λ v. done q reply.Fine) (λ v. pick b (λ w. refused q errno.ENOSPC) (λ w. (record q { change = Some (change_of q d call.Sweep (sweep_script q)) }, turn.Going)))).1 ≡ turn.Going
      → (pick a (λ v. done q reply.Fine) (λ v. pick b (λ w. refused q errno.ENOSPC) (λ w. (record q { change = Some (change_of q d call.Sweep (sweep_script q)) }, turn.Going)))).0
      ≡ record q { change = Some (change_of q d call.Sweep (sweep_script q)) }
  by true b going = absurd cc
  by false true going = absurd cc
  by false false going = refl

sweep_begun : (q s : State) (d : ℕ) → next q d (event.Begin call.Sweep) ≡ Some (s, turn.Going) → SweepCourse s
unfolding settled
sweep_begun q s d step =
    let start = begin_is q s d call.Sweep turn.Going step in
    record {
      now = change_of q d call.Sweep (sweep_script q);
      at = sym (ap (λ (u : State). u.change) start.1) ∙ ap (λ (u : State). u.change) (sweep_state q d start.2);
      call_ = refl;
      first = refl;
      left = sweep_has_no strays q feeding_is_own (λ c. refl) (λ c. refl) refl;
      vetoed = refl;
    }

-- what the step that comes next in it is
sweep_first : (m : Micro) (front left : List Micro) → comes_next m (front ++ left) ≡ true → list_any strays front ≡ false → list_any strays left ≡ false → is_of_sweep m ≡ true
sweep_first m front left first none none' = kept_fits (is_of_sweep m) (first_none strays m (front ++ left) first (none_append strays front left none none'))

-- what a step of it leaves of its change
record SweepLeaves (k : Change) (u : State) : Type 0 where
  now : Change
  at : u.change ≡ Some now
  call_ : now.call ≡ call.Sweep
  first : list_any strays now.front ≡ false
  left : list_any strays now.left ≡ false
  vetoed : now.vetoed ≡ k.vetoed

-- a change of a sweep that has only such steps
pub record OwnSteps (k : Change) : Type 0 where
  pub call_ : k.call ≡ call.Sweep
  pub first : list_any strays k.front ≡ false
  left : list_any strays k.left ≡ false

-- with this put before what comes next
with_front : (s : State) (k : Change) → OwnSteps k → (polls again : ℕ) (raised : List ℕ) (put : List Micro) → list_any strays put ≡ false
    → SweepLeaves k (on s (record k { polls = polls; again = again; raised = raised; front = put ++ k.front }))
with_front s k own polls again raised put none = record {
  now = record k { polls = polls; again = again; raised = raised; front = put ++ k.front };
  at = refl;
  call_ = own.call_;
  first = none_append strays put k.front none own.first;
  left = own.left;
  vetoed = refl;
}

as_it_is : (s : State) (k : Change) → OwnSteps k → SweepLeaves k (on s k)
as_it_is s k own = record { now = k; at = refl; call_ = own.call_; first = own.first; left = own.left; vetoed = refl }

late : (s : State) (k : Change) → OwnSteps k → SweepLeaves k (timed_out s (record k { polls = 0 }))
late s k own = record {
  now = record k {
    polls = 0;
    timed_out = true;
    again = 0;
    extra = 0;
    front = map (λ y. micro.Fall (clock_id y)) k.raised ++ aborts_of s (record k { polls = 0 });
    left = cut_short k.call k.left;
    missed = missed_by k.call k.left;
  };
  at = refl;
  call_ = own.call_;
  first = none_append strays (map (λ y. micro.Fall (clock_id y)) k.raised) (aborts_of s (record k { polls = 0 })) (none_map strays (λ y. micro.Fall (clock_id y)) k.raised (λ y. refl))
      (no_aborts k.call own.call_);
  left = none_cut strays k.call k.left own.left;
  vetoed = refl;
} where
  no_aborts : (what : Sleeping) → what ≡ call.Sweep
      → list_any strays (cond (sets_parent what) (abort_list (record { before = k.before; outcome = k.outcome }) s.notifiers k.changing) []) ≡ false
  no_aborts what is = ap (λ (w : Sleeping). list_any strays (cond (sets_parent w) (abort_list (record { before = k.before; outcome = k.outcome }) s.notifiers k.changing) [])) is

-- a step of it that doesn't end it goes on, with such a change
sweep_leaves : (s : State) (k : Change) (answer : Option Bool) (m : Micro) → OwnSteps k → is_of_sweep m ≡ true → is_end m ≡ false
    → SweepLeaves k (stepped s k answer m).0 × ((stepped s k answer m).1 ≡ turn.Going)
unfolding stepped
sweep_leaves s k answer (micro.Raise x) own is going = (by (slice_get (reverse (to_raise s k x.0)) 0), refl) where
  one : (y : ℕ) (more : Bool) → SweepLeaves k (on (powered s y true) (record k {
    raised = y ∷ k.raised;
    polls = most_polls;
    again = cond more (k.again + 1) 0;
    front = (micro.Poll (clock_id y) ∷ cond more (micro.Raise (clock_id x.0) ∷ []) []) ++ k.front;
  }))
  one y true = with_front (powered s y true) k own most_polls (k.again + 1) (y ∷ k.raised) (micro.Poll (clock_id y) ∷ micro.Raise (clock_id x.0) ∷ []) refl
  one y false = with_front (powered s y true) k own most_polls 0 (y ∷ k.raised) (micro.Poll (clock_id y) ∷ []) refl

  by : (o : Option ℕ) → SweepLeaves k (option_map_or (raise_one s k x.0) o (on s (record k { again = 0 })))
  by None = with_front s k own k.polls 0 k.raised [] refl
  by (Some y) = one y (nat_le 2 (length (to_raise s k x.0)))
sweep_leaves s k answer (micro.Poll y) own is going = (by (is_yes answer), refl) where
  again_or_late : (b : Bool) → SweepLeaves k (cond b (timed_out s (record k { polls = 0 })) (on s (record k { polls = k.polls - 1; front = micro.Poll (clock_id y.0) ∷ k.front })))
  again_or_late true = late s k own
  again_or_late false = with_front s k own (k.polls - 1) k.again k.raised (micro.Poll (clock_id y.0) ∷ []) refl

  by : (b : Bool) → SweepLeaves k (poll s k y.0 b)
  by true = with_front s k own 0 k.again k.raised [] refl
  by false = again_or_late (nat_le k.polls 1)
sweep_leaves s k answer (micro.Fall y) own is going = (with_front (powered s y.0 false) k own k.polls k.again (without_one y.0 k.raised) [] refl, refl)
sweep_leaves s k answer (micro.HoldPrepare x) own is going =
    (with_front (record s { prepare_holds = x.0 ∷ s.prepare_holds }) k own k.polls k.again (without (path s.clocks x.0) k.raised) [] refl, refl)
sweep_leaves s k answer (micro.HoldEnable x) own is going = (as_it_is (record s { enable_holds = x.0 ∷ s.enable_holds }) k own, refl)
sweep_leaves s k answer (micro.DropEnable x) own is going = (as_it_is (record s { enable_holds = without_one x.0 s.enable_holds }) k own, refl)
sweep_leaves s k answer (micro.DropPrepare x) own is going = (as_it_is (record s { prepare_holds = without_one x.0 s.prepare_holds }) k own, refl)
sweep_leaves s k answer (micro.Lower x) own is going = (by (slice_get (to_lower s x.0) 0), refl) where
  one : (y : ℕ) (more : Bool) → SweepLeaves k (on (powered s y false) (record k { again = cond more (k.again + 1) 0; front = cond more (micro.Lower (clock_id x.0) ∷ []) [] ++ k.front }))
  one y true = with_front (powered s y false) k own k.polls (k.again + 1) k.raised (micro.Lower (clock_id x.0) ∷ []) refl
  one y false = with_front (powered s y false) k own k.polls 0 k.raised [] refl

  by : (o : Option ℕ) → SweepLeaves k (option_map_or (lower_one s k x.0) o (on s (record k { again = 0 })))
  by None = with_front s k own k.polls 0 k.raised [] refl
  by (Some y) = one y (nat_le 2 (length (to_lower s x.0)))
sweep_leaves s k answer (micro.Close c) own is going = (as_it_is (close s k c.0) k own, refl)
sweep_leaves s k answer (micro.Unpower c) own is going = (as_it_is (powered s c.0 false) k own, refl)
sweep_leaves s k answer micro.End own is going = absurd cc
sweep_leaves s k answer _ own is going = absurd cc

-- its end goes well, or a poll has timed out
sweep_ends : (s : State) (k : Change) (answer : Option Bool) (m : Micro) → is_end m ≡ true → k.vetoed ≡ false
    → ((stepped s k answer m).1 ≡ turn.Done reply.Fine) ⊎ ((stepped s k answer m).1 ≡ turn.Done (reply.Refused errno.ETIMEDOUT))
unfolding stepped
sweep_ends s k answer micro.End is calm = by k.vetoed k.timed_out calm where
  by : (vetoed late : Bool) → vetoed ≡ false → (turn.Done (cond vetoed (reply.Refused errno.EBUSY) (cond late (reply.Refused errno.ETIMEDOUT) reply.Fine)) ≡ turn.Done reply.Fine)
      ⊎ (turn.Done (cond vetoed (reply.Refused errno.EBUSY) (cond late (reply.Refused errno.ETIMEDOUT) reply.Fine)) ≡ turn.Done (reply.Refused errno.ETIMEDOUT))
  by true late calm' = absurd cc
  by false true calm' = inr refl
  by false false calm' = inl refl
sweep_ends s k answer _ is calm = absurd cc

-- a step of a sweep
record SweepStep (s t : State) (m : Micro) (x : Turn) : Type 0 where
  step : is_of_sweep m ≡ true
  left : is_end m ≡ false → SweepCourse t
  goes_on_ : is_end m ≡ false → x ≡ turn.Going
  ends : is_end m ≡ true → (x ≡ turn.Done reply.Fine) ⊎ (x ≡ turn.Done (reply.Refused errno.ETIMEDOUT))

only_sweep : (what : Sleeping) → is_sweep what ≡ true → what ≡ call.Sweep
only_sweep call.Sweep is = refl
only_sweep _ is = absurd cc

sweep_step : (s t : State) (d : ℕ) (m : Micro) (answer : Option Bool) (x : Turn) (course : SweepCourse s) → next s d (event.Step m answer) ≡ Some (t, x) → SweepStep s t m x
unfolding settled
sweep_step s t d m answer x course step =
    let is = of_change s t d m answer x course.now course.at step in
    let own = sweep_first m course.now.front course.now.left is.first course.first course.left in
    let rest = taken_none strays course.now.front course.now.left course.first course.left in
    let steps : OwnSteps (taken course.now) = record { call_ = only_sweep course.now.call course.call_; first = rest.0; left = rest.1 } in
    record {
      step = own;
      left = λ going.
          let leaves = (sweep_leaves s (taken course.now) answer m steps own going).0 in
          record {
            now = leaves.now;
            at = sym (ap (λ (u : State). u.change) is.state) ∙ leaves.at;
            call_ = ap is_sweep leaves.call_;
            first = leaves.first;
            left = leaves.left;
            vetoed = leaves.vetoed ∙ course.vetoed;
          };
      goes_on_ = λ going. sym is.answered ∙ (sweep_leaves s (taken course.now) answer m steps own going).1;
      ends = λ end_. subst (λ (y : Turn). (y ≡ turn.Done reply.Fine) ⊎ (y ≡ turn.Done (reply.Refused errno.ETIMEDOUT))) is.answered
          (sweep_ends s (taken course.now) answer m end_ course.vetoed);
    }

-- over a whole flight
sweep_course : (q : State) (d : ℕ) {s : State} {made : List Micro} → Flight q d call.Sweep s made → SweepCourse s
sweep_course q d {s = s} (begins step) = sweep_begun q s d step
sweep_course q d {s = t} (goes_on {s = s} m answer flight step) =
    let course = sweep_course q d flight in
    let made = sweep_step s t d m answer turn.Going course step in
    made.left (not_end m made.ends) where
      not_end : (m : Micro) → (is_end m ≡ true → (turn.Going ≡ turn.Done reply.Fine) ⊎ (turn.Going ≡ turn.Done (reply.Refused errno.ETIMEDOUT))) → is_end m ≡ false
      not_end m ends = by (is_end m) ends where
        no : (turn.Going ≡ turn.Done reply.Fine) ⊎ (turn.Going ≡ turn.Done (reply.Refused errno.ETIMEDOUT)) → ⊥
        no (inl e) = cc
        no (inr e) = cc

        by : (b : Bool) → (b ≡ true → (turn.Going ≡ turn.Done reply.Fine) ⊎ (turn.Going ≡ turn.Done (reply.Refused errno.ETIMEDOUT))) → b ≡ false
        by true e = absurd (no (e refl))
        by false e = refl
sweep_course q d {s = t} (beside {s = s} {x = x} other e tier flight step) =
    let course = sweep_course q d flight in
    record {
      now = course.now;
      at = beside_change s t other e x tier step ∙ course.at;
      call_ = course.call_;
      first = course.first;
      left = course.left;
      vetoed = course.vetoed;
    }

of_sweep_fits : (defs : Description) (m : Micro) → is_of_sweep m ≡ true → fits_mux defs m ≡ true
of_sweep_fits defs (micro.WriteMux c place) is = absurd cc
of_sweep_fits defs _ is = refl

pub runs_sweep_by_prep : RunsSweepByPrep
runs_sweep_by_prep defs regs ignore_unused credits journal t u l m answer x valid call_ same at is step =
    let start : State = opening defs regs ignore_unused credits in
    let q : State = replay start call_.before in
    let s : State = replay start journal in
    let known = runs_are_wired defs regs ignore_unused credits journal valid in
    let wired : IsWired (length s.regs) (wiring s) = subst (λ (n : ℕ). IsWired n (wiring s)) (sym known.size) known.wired in
    let course = sweep_course q call_.first.driver (subst (λ (what : Sleeping). Flight q call_.first.driver what s (steps_of call_.since)) (only_sweep call_.what is) call_.flight) in
    let made = sweep_step s u call_.first.driver m answer x course step in
    record {
      alike = sweeps_read_prep s t u course.now l call_.first.driver m answer x wired same course.at at course.call_ (of_sweep_fits s.defs m made.step) step;
      step = made.step;
      goes_on = made.goes_on_;
      ends = made.ends;
    }
