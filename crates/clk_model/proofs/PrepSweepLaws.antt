-- Laws on the steps of a sweep: what is left of it is no part of the prepare tier, and what a step makes of that part depends on it and the step alone.
use Rattle.std.proofs.Common.{◌≡◌, ℕ, ◌-◌, ◌||◌, Bool, true, false, cond, ◌∷◌, Option, Some, None, refl, sym, ap, subst, ◌∙◌, length, nat_le}
use Rattle.std.specs.Prelude.{if◌then◌else◌, option_map, reverse, slice_get}
use Rattle.std.specs.Option.{option_map_or}
use Rattle.clk_base.specs.declared.call.Micro.{Micro}
use Rattle.clk_base.specs.declared.call.Micro.TheVariants as micro
use Rattle.clk_base.specs.declared.call.Sleeping.{Sleeping}
use Rattle.clk_base.specs.declared.call.Sleeping.TheVariants as call
use Rattle.clk_model.specs.State.{State, Change}
use Rattle.clk_model.specs.Chain.{clock_id}
use Rattle.clk_model.specs.Step.{taken, on, to_raise, raise_one, to_lower, lower_one, timed_out, poll, is_yes, close, stepped}
use Rattle.clk_model.specs.Prep.{is_sweep, change_prep, prep}
use Rattle.clk_model.specs.Laws.PrepSteps.{closes_gate, SweepsReadPrep}
use Rattle.clk_model.proofs.VetoLaws.{of_change}
use Rattle.clk_model.proofs.AlikeLaws.{Alike, alike_prep, rest_of, is_beside, looks_alike, same_changes, inside_change}
use Rattle.clk_model.proofs.PrepStepLaws.{shut}
use Rattle.clk_model.proofs.PrepEndLaws.{step_alike, prep_stepped}

-- a change as that of a sweep
abbrev sweeping : Change → Change
sweeping k = record k { call = call.Sweep }

only_sweep : (what : Sleeping) → is_sweep what ≡ true → what ≡ call.Sweep
only_sweep call.Sweep is = refl
only_sweep _ is = absurd cc

is_sweeping : (k : Change) → is_sweep k.call ≡ true → k ≡ sweeping k
is_sweeping k is = ap (λ (what : Sleeping). let j : Change = record k { call = what } in j) (only_sweep k.call is)

-- what is left of a sweep doesn't matter for what a step makes of the prepare tier's part
left_aside : (s : State) (k : Change) (answer : Option Bool) (m : Micro) → prep (stepped s (sweeping k) answer m).0 ≡ prep (stepped s (change_prep (sweeping k)) answer m).0
unfolding prep stepped
left_aside s k answer (micro.Notify kind c id old_ new_) = refl
left_aside s k answer (micro.Raise c) = by (slice_get (reverse (to_raise s (sweeping k) c.0)) 0) where
  by : (o : Option ℕ) → prep (option_map_or (raise_one s (sweeping k) c.0) o (on s (record (sweeping k) { again = 0 })))
      ≡ prep (option_map_or (raise_one s (change_prep (sweeping k)) c.0) o (on s (record (change_prep (sweeping k)) { again = 0 })))
  by None = refl
  by (Some y) = refl
left_aside s k answer (micro.Poll y) = by (is_yes answer) where
  late : (b : Bool) → prep (cond b (timed_out s (record (sweeping k) { polls = 0 })) (on s (record (sweeping k) { polls = k.polls - 1; front = micro.Poll (clock_id y.0) ∷ k.front })))
      ≡ prep (cond b (timed_out s (record (change_prep (sweeping k)) { polls = 0 })) (on s (record (change_prep (sweeping k)) { polls = k.polls - 1; front = micro.Poll (clock_id y.0) ∷ (change_prep (sweeping k)).front })))
  late true = refl
  late false = refl

  by : (b : Bool) → prep (poll s (sweeping k) y.0 b) ≡ prep (poll s (change_prep (sweeping k)) y.0 b)
  by true = refl
  by false = late (nat_le k.polls 1)
left_aside s k answer (micro.Fall y) = refl
left_aside s k answer (micro.HoldPrepare c) = refl
left_aside s k answer (micro.HoldEnable c) = refl
left_aside s k answer (micro.Relink c p) = refl
left_aside s k answer (micro.WriteMux c place) = refl
left_aside s k answer (micro.DropEnable c) = refl
left_aside s k answer (micro.DropPrepare c) = refl
left_aside s k answer (micro.Lower c) = by (slice_get (to_lower s c.0) 0) where
  by : (o : Option ℕ) → prep (option_map_or (lower_one s (sweeping k) c.0) o (on s (record (sweeping k) { again = 0 })))
      ≡ prep (option_map_or (lower_one s (change_prep (sweeping k)) c.0) o (on s (record (change_prep (sweeping k)) { again = 0 })))
  by None = refl
  by (Some y) = refl
left_aside s k answer (micro.Visit c) = refl
left_aside s k answer (micro.Register c) = refl
left_aside s k answer (micro.Settle c) = refl
left_aside s k answer (micro.Close c) = refl
left_aside s k answer (micro.Unpower c) = refl
left_aside s k answer micro.End = by (k.vetoed || k.timed_out) (k.vetoed || false) where
  by : (a b : Bool) → (let u : State = record (if a then s else s) { change = None } in prep u) ≡ (let u : State = record (if b then s else s) { change = None } in prep u)
  by true true = refl
  by true false = refl
  by false true = refl
  by false false = refl

step_aside : (s : State) (k : Change) (answer : Option Bool) (m : Micro) → is_sweep k.call ≡ true → prep (stepped s k answer m).0 ≡ prep (stepped s (change_prep k) answer m).0
step_aside s k answer m is =
    subst (λ (j : Change). prep (stepped s j answer m).0 ≡ prep (stepped s (change_prep j) answer m).0) (sym (is_sweeping k is)) (left_aside s k answer m)

taken_aside : (k : Change) → is_sweep k.call ≡ true → change_prep (taken k) ≡ change_prep k
taken_aside k is = subst (λ (j : Change). change_prep (taken j) ≡ change_prep j) (sym (is_sweeping k is)) refl

-- a gate that is closed leaves the prepare tier's part
closed_same : (s : State) (k : Change) (answer : Option Bool) (m : Micro) → s.change ≡ Some k → is_sweep k.call ≡ true → closes_gate m ≡ true → prep (stepped s (taken k) answer m).0 ≡ prep s
unfolding stepped
closed_same s k answer (micro.Close c) at is closes = alike_prep (close s (taken k) c.0) s (record {
  defs = refl;
  regs = shut s c.0;
  clocks = refl;
  order = refl;
  handles = refl;
  notifiers = refl;
  prepare_holds = refl;
  change = ap (λ (j : Change). Some j) (taken_aside k is) ∙ ap (λ (o : Option Change). option_map change_prep o) (sym at);
  credits = refl;
  ignore_unused = refl;
})
closed_same s k answer _ at is closes = absurd cc

pub sweeps_read_prep : SweepsReadPrep
sweeps_read_prep s t u k l d m answer x wired same at at' is fits step =
    let made = of_change s u d m answer x k at step in
    let one : change_prep l ≡ change_prep k =
    inside_change (ap (λ (o : Option Change). option_map change_prep o) (sym at') ∙ same_changes s t same ∙ ap (λ (o : Option Change). option_map change_prep o) at) in
    let is_l : is_sweep l.call ≡ true = ap (λ (j : Change). is_sweep j.call) one ∙ is in
    let alike = subst (λ (v : State). Alike (stepped v (change_prep k) answer m).0 (stepped s (change_prep k) answer m).0) (sym (is_beside s t same))
    (step_alike (length s.regs) s t.regs t.handles (rest_of t) (looks_alike (length s.regs) s t wired.valid same) (change_prep k) answer m fits) in
    record {
      same = step_aside t l answer m is_l
          ∙ ap (λ (j : Change). prep (stepped t j answer m).0) one
          ∙ alike_prep _ _ alike
          ∙ ap (λ (j : Change). prep (stepped s j answer m).0) (sym (taken_aside k is))
          ∙ sym (step_aside s (taken k) answer m is)
          ∙ sym (prep_stepped s u d m answer x k made);
      closes = λ shuts. prep_stepped s u d m answer x k made ∙ closed_same s k answer m at is shuts;
    }
