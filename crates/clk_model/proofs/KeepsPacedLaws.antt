-- Laws on each step of a paced change: it leaves the change paced, where that goes on.
use Rattle.std.proofs.Common.{◌≡◌, ℕ, ◌+◌, ◌-◌, ◌<◌, ◌≤◌, Bool, true, false, ◌||◌, cond, List, [], ◌∷◌, ◌++◌, map, Option, Some, None, refl, sym, ap, subst, ◌∙◌, arith, length}
use Rattle.std.specs.Prelude.{IfSome, IfNone, nat_le, reverse, slice_get, if◌then◌else◌}
use Rattle.std.specs.List.{list_all, list_any}
use Rattle.std.specs.Option.{option_map_or}
use Rattle.std.proofs.lemmas.Bool.Decides.{nat_tests}
use Rattle.std.proofs.lemmas.List.Folds.{list_any-append}
use Rattle.clk_base.specs.declared.call.Micro.{Micro}
use Rattle.clk_base.specs.declared.call.Micro.TheVariants as micro
use Rattle.clk_base.specs.declared.clock.ClockId.{ClockId}
use Rattle.clk_base.specs.Valid.{IsValid}
use Rattle.clk_model.specs.State.{State, Change}
use Rattle.clk_model.specs.Chain.{clock_id}
use Rattle.clk_model.specs.Gates.{settled}
use Rattle.clk_model.specs.Notices.{abort_list}
use Rattle.clk_model.specs.Script.{plls}
use Rattle.clk_model.specs.Step.{missed_by, sets_parent, cut_short, on, powered, aborts_of, to_raise, most_polls, raise_one, raise, poll, to_lower, lower_one, lower}
use Rattle.clk_model.specs.Laws.Paced.{may_time_out, is_scripted, ends_last, StillToRaise, tells, polls, polls_to_raise, raises, lowers, IsPaced}
use Rattle.clk_model.proofs.WeightLaws.{changed, aborts_notices}
use Rattle.clk_model.proofs.PacedStepLaws.{raise_again}
use Rattle.clk_model.proofs.PowerLaws.{settled_raise, lowered_fewer}
use Rattle.clk_model.proofs.PacedLaws.{falls_wind, notices_calm, falls_calm, CutsWell, cut_behind, cuts_well, cut_calm, after, HasExtra, tells_on, raised_on}

-- ---- raising and lowering

pub well_of : (m : Micro) (rest : List Micro) → list_all is_scripted (m ∷ rest) ≡ true → ends_last (m ∷ rest) ≡ true → CutsWell rest rest
well_of m rest all last = let cut = cut_behind m rest all last in record { script = cut.script; last = cut.last }

pub raise_on : (s : State) (k l : Change) (x : ℕ) (rest : List Micro) → IsValid (length s.regs) s.defs → k.again + length (to_raise s k x) ≤ plls s.defs → CutsWell rest rest
    → length (aborts_of s k) ≤ k.extra → (raise s (changed k [] rest) x).change ≡ Some l → IsPaced (after s (raise s (changed k [] rest) x)) l
raise_on s k l x rest valid few well extra e = by_highest (slice_get (reverse (to_raise s k x)) 0) refl e where
  by_highest : (o : Option ℕ) → slice_get (reverse (to_raise s k x)) 0 ≡ o
      → (option_map_or (raise_one s (changed k [] rest) x) o (on s (record (changed k [] rest) { again = 0 }))).change ≡ Some l
      → IsPaced (after s (option_map_or (raise_one s (changed k [] rest) x) o (on s (record (changed k [] rest) { again = 0 })))) l
  by_highest None at f =
      let last_ : Change = record (changed k [] rest) { again = 0 } in
      let same : last_ ≡ l = ap (λ (o : Option Change). option_map_or (λ (c : Change). c) o last_) f in
      subst (λ (c : Change). IsPaced (after s (on s last_)) c) same (tells_on s s last_ refl refl well (λ late. extra))
  by_highest (Some z) at f =
      let t : Bool = nat_le 2 (length (to_raise s k x)) in
      let new : Change = record (changed k [] rest) {
        raised = z ∷ k.raised;
        polls = most_polls;
        again = if t then k.again + 1 else 0;
        front = micro.Poll (clock_id z) ∷ (if t then micro.Raise (clock_id x) ∷ [] else []) ++ [];
      } in
      let same : new ≡ l = ap (λ (o : Option Change). option_map_or (λ (c : Change). c) o new) f in
      subst (λ (c : Change). IsPaced (after s (on (powered s z true) new)) c) same (raised_on s k x z rest t valid at few well extra)

lowered_on : (s : State) (k : Change) (x z : ℕ) (rest : List Micro) (t : Bool) → IsValid (length s.regs) s.defs → slice_get (to_lower s x) 0 ≡ Some z
    → k.again + length (to_lower s x) ≤ plls s.defs → CutsWell rest rest → HasExtra s k rest
    → let l : Change = record (changed k [] rest) {
      again = if t then k.again + 1 else 0;
      front = (if t then micro.Lower (clock_id x) ∷ [] else []) ++ [];
    } in IsPaced (after s (on (powered s z false) l)) l
unfolding settled
lowered_on s k x z rest true valid at few well extra =
    let l : Change = record (changed k [] rest) { again = k.again + 1; front = micro.Lower (clock_id x) ∷ [] } in
    let fewer = lowered_fewer s l x z (s.steps + 1) valid at in
    record { front = lowers (clock_id x) refl (omega arith); script = well.script; last = well.last; aborts = extra }
lowered_on s k x z rest false valid at few well extra = record { front = tells refl refl; script = well.script; last = well.last; aborts = extra }

pub lower_on : (s : State) (k l : Change) (x : ℕ) (rest : List Micro) → IsValid (length s.regs) s.defs → k.again + length (to_lower s x) ≤ plls s.defs → CutsWell rest rest
    → HasExtra s k rest → (lower s (changed k [] rest) x).change ≡ Some l → IsPaced (after s (lower s (changed k [] rest) x)) l
lower_on s k l x rest valid few well extra e = by_lowest (slice_get (to_lower s x) 0) refl e where
  by_lowest : (o : Option ℕ) → slice_get (to_lower s x) 0 ≡ o
      → (option_map_or (lower_one s (changed k [] rest) x) o (on s (record (changed k [] rest) { again = 0 }))).change ≡ Some l
      → IsPaced (after s (option_map_or (lower_one s (changed k [] rest) x) o (on s (record (changed k [] rest) { again = 0 })))) l
  by_lowest None at f =
      let last_ : Change = record (changed k [] rest) { again = 0 } in
      let same : last_ ≡ l = ap (λ (o : Option Change). option_map_or (λ (c : Change). c) o last_) f in
      subst (λ (c : Change). IsPaced (after s (on s last_)) c) same (tells_on s s last_ refl refl well extra)
  by_lowest (Some z) at f =
      let t : Bool = nat_le 2 (length (to_lower s x)) in
      let new : Change = record (changed k [] rest) { again = if t then k.again + 1 else 0; front = (if t then micro.Lower (clock_id x) ∷ [] else []) ++ [] } in
      let same : new ≡ l = ap (λ (o : Option Change). option_map_or (λ (c : Change). c) o new) f in
      subst (λ (c : Change). IsPaced (after s (on (powered s z false) new)) c) same (lowered_on s k x z rest t valid at few well extra)

-- ---- polls

no_extra : (s : State) (k : Change) (rest : List Micro) → ends_last rest ≡ true
    → list_any may_time_out ((map (λ y. micro.Fall (clock_id y)) k.raised ++ aborts_of s k) ++ cut_short k.call rest) ≡ true → length (aborts_of s k) ≤ 0
no_extra s k rest last late = one (sets_parent k.call) refl where
  calm : list_any may_time_out (map (λ y. micro.Fall (clock_id y)) k.raised ++ aborts_of s k) ≡ false
  calm =
      list_any-append may_time_out (map (λ y. micro.Fall (clock_id y)) k.raised) (aborts_of s k)
      ∙ ap (λ (t : Bool). t || list_any may_time_out (aborts_of s k)) (falls_calm k.raised) ∙ notices_calm (aborts_of s k) (aborts_notices s k)

  one : (t : Bool) → sets_parent k.call ≡ t → length (aborts_of s k) ≤ 0
  one false e =
      let none : aborts_of s k ≡ [] = ap (λ (t : Bool). cond t (abort_list (record { before = k.before; outcome = k.outcome }) s.notifiers k.changing) []) e in
      let long = ap (λ (ms : List Micro). length ms) none in
      omega arith
  one true e =
      let quiet : list_any may_time_out ((map (λ y. micro.Fall (clock_id y)) k.raised ++ aborts_of s k) ++ cut_short k.call rest) ≡ false =
      list_any-append may_time_out (map (λ y. micro.Fall (clock_id y)) k.raised ++ aborts_of s k) (cut_short k.call rest)
      ∙ ap (λ (t : Bool). t || list_any may_time_out (cut_short k.call rest)) calm ∙ cut_calm k.call rest last e in
      let no : false ≡ true = sym quiet ∙ late in
      absurd cc

-- a change that timed out
timeout_on : (s : State) (k : Change) (front rest : List Micro) → CutsWell rest rest
    → let l : Change = record k {
      polls = 0;
      timed_out = true;
      again = 0;
      extra = 0;
      front = map (λ y. micro.Fall (clock_id y)) k.raised ++ aborts_of s k;
      left = cut_short k.call rest;
      missed = missed_by k.call rest;
    } in IsPaced (after s (on s l)) l
timeout_on s k front rest well =
    let l : Change = record k {
      polls = 0;
      timed_out = true;
      again = 0;
      extra = 0;
      front = map (λ y. micro.Fall (clock_id y)) k.raised ++ aborts_of s k;
      left = cut_short k.call rest;
      missed = missed_by k.call rest;
    } in
    let cut = cuts_well k.call rest well.script well.last in
    tells_on s s l (falls_wind k.raised (aborts_of s k) (aborts_notices s k)) refl (record { script = cut.script; last = cut.last }) (λ late. no_extra s k rest well.last late)

-- what stands behind a poll, once it doesn't ask again
unpolled_on : (s : State) (k : Change) (o : Option ClockId) (rest : List Micro) → IsValid (length s.regs) s.defs → IfSome o (StillToRaise s k) → IfNone o (k.again ≡ 0) → CutsWell rest rest
    → length (aborts_of s k) ≤ k.extra
    → let l : Change = record (changed k (raise_again o) rest) { polls = 0 } in IsPaced (after s (on s l)) l
unfolding settled
unpolled_on s k None rest valid few first well extra = record { front = tells refl first; script = well.script; last = well.last; aborts = λ late. extra }
unpolled_on s k (Some x) rest valid few first well extra =
    let l : Change = record (changed k (micro.Raise x ∷ []) rest) { polls = 0 } in
    let same = ap (λ (ys : List ℕ). length ys) (settled_raise s (on s l) (length s.regs) (s.steps + 1) l x.0 valid) in
    record { front = raises x refl (omega arith); script = well.script; last = well.last; aborts = λ late. extra }

-- a poll that asks again
polled_on : (s : State) (k : Change) (y : ℕ) (o : Option ClockId) (rest : List Micro) → IsValid (length s.regs) s.defs → IfSome o (StillToRaise s k) → IfNone o (k.again ≡ 0) → CutsWell rest rest
    → length (aborts_of s k) ≤ k.extra → 1 < k.polls
    → let l : Change = record (changed k (raise_again o) rest) { polls = k.polls - 1; front = micro.Poll (clock_id y) ∷ raise_again o } in IsPaced (after s (on s l)) l
unfolding settled
polled_on s k y None rest valid few first well extra more = record { front = polls (clock_id y) refl (omega arith) first; script = well.script; last = well.last; aborts = λ late. extra }
polled_on s k y (Some x) rest valid few first well extra more =
    let l : Change = record (changed k (raise_again (Some x)) rest) { polls = k.polls - 1; front = micro.Poll (clock_id y) ∷ micro.Raise x ∷ [] } in
    let same = ap (λ (ys : List ℕ). length ys) (settled_raise s (on s l) (length s.regs) (s.steps + 1) l x.0 valid) in
    record { front = polls_to_raise (clock_id y) x refl (omega arith) (omega arith); script = well.script; last = well.last; aborts = λ late. extra }

pub poll_on : (s : State) (k l : Change) (y : ℕ) (o : Option ClockId) (rest : List Micro) (b : Bool) → IsValid (length s.regs) s.defs → IfSome o (StillToRaise s k) → IfNone o (k.again ≡ 0)
    → CutsWell rest rest → length (aborts_of s k) ≤ k.extra → (poll s (changed k (raise_again o) rest) y b).change ≡ Some l → IsPaced (after s (poll s (changed k (raise_again o) rest) y b)) l
poll_on s k l y o rest true valid few first well extra e =
    let new : Change = record (changed k (raise_again o) rest) { polls = 0 } in
    let same : new ≡ l = ap (λ (c : Option Change). option_map_or (λ (d : Change). d) c new) e in
    subst (λ (c : Change). IsPaced (after s (on s new)) c) same (unpolled_on s k o rest valid few first well extra)
poll_on s k l y o rest false valid few first well extra e = by_last (nat_le k.polls 1) refl e where
  late : Change
  late = record k {
    polls = 0;
    timed_out = true;
    again = 0;
    extra = 0;
    front = map (λ z. micro.Fall (clock_id z)) k.raised ++ aborts_of s k;
    left = cut_short k.call rest;
    missed = missed_by k.call rest;
  }

  again_ : Change
  again_ = record (changed k (raise_again o) rest) { polls = k.polls - 1; front = micro.Poll (clock_id y) ∷ raise_again o }

  by_last : (t : Bool) → nat_le k.polls 1 ≡ t → (if t then on s late else on s again_).change ≡ Some l → IsPaced (after s (if t then on s late else on s again_)) l
  by_last true f g =
      let same : late ≡ l = ap (λ (c : Option Change). option_map_or (λ (d : Change). d) c late) g in
      subst (λ (c : Change). IsPaced (after s (on s late)) c) same (timeout_on s k [] rest well)
  by_last false f g =
      let more : 1 < k.polls = grind (arith, nat_tests) in
      let same : again_ ≡ l = ap (λ (c : Option Change). option_map_or (λ (d : Change). d) c again_) g in
      subst (λ (c : Change). IsPaced (after s (on s again_)) c) same (polled_on s k y o rest valid few first well extra more)
