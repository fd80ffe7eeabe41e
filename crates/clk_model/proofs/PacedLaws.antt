-- Laws on paced changes: each step leaves them paced.
use Rattle.std.proofs.Common.{◌≡◌, ℕ, ◌+◌, ◌≤◌, Bool, true, false, not, ◌&&◌, ◌||◌, List, [], ◌∷◌, ◌++◌, map, Some, refl, sym, ap, ◌∙◌, arith, length}
use Rattle.std.specs.Prelude.{cond, IfSome, is_none, reverse, slice_get, if◌then◌else◌}
use Rattle.std.specs.List.{list_all, list_any}
use Rattle.clk_base.specs.declared.call.Micro.{Micro}
use Rattle.clk_base.specs.declared.call.Micro.TheVariants as micro
use Rattle.clk_base.specs.declared.call.Sleeping.{Sleeping}
use Rattle.clk_base.specs.declared.call.Sleeping.TheVariants as call
use Rattle.clk_base.specs.Valid.{IsValid}
use Rattle.clk_model.specs.Lists.{is_in, without_one}
use Rattle.clk_model.specs.State.{State, Change}
use Rattle.clk_model.specs.Chain.{clock_id}
use Rattle.clk_model.specs.Gates.{settled}
use Rattle.clk_model.specs.Script.{plls}
use Rattle.std.proofs.lemmas.Bool.{and_from}
use Rattle.clk_model.specs.Step.{is_close, lets_go, behind_lets, first_alone, is_end, is_visit, is_settle, is_register, sets_parent, from_first, behind_first, cut_short, on, powered, aborts_of, to_raise, most_polls, todo}
use Rattle.clk_model.specs.Laws.Paced.{is_notice, winds_down, may_time_out, is_scripted, ends_last, tells, polls, polls_to_raise, IsPaced}
use Rattle.clk_model.proofs.Members.{both_left, both_right, test_same}
use Rattle.clk_model.proofs.WeightLaws.{changed}
use Rattle.clk_model.proofs.PowerLaws.{raised_fewer}

-- ---- notices and falls

notice_winds : (m : Micro) (ms : List Micro) (raised : List ℕ) → is_notice m ≡ true → winds_down ms raised ≡ true → winds_down (m ∷ ms) raised ≡ true
notice_winds (micro.Notify kind c id old new) ms raised e rest = rest
notice_winds (micro.Raise x) ms raised e rest = absurd cc
notice_winds (micro.Poll y) ms raised e rest = absurd cc
notice_winds (micro.Fall y) ms raised e rest = absurd cc
notice_winds (micro.HoldPrepare x) ms raised e rest = absurd cc
notice_winds (micro.HoldEnable x) ms raised e rest = absurd cc
notice_winds (micro.Relink c p) ms raised e rest = absurd cc
notice_winds (micro.WriteMux c place) ms raised e rest = absurd cc
notice_winds (micro.DropEnable x) ms raised e rest = absurd cc
notice_winds (micro.DropPrepare x) ms raised e rest = absurd cc
notice_winds (micro.Lower x) ms raised e rest = absurd cc
notice_winds (micro.Visit c) ms raised e rest = absurd cc
notice_winds (micro.Register c) ms raised e rest = absurd cc
notice_winds (micro.Settle c) ms raised e rest = absurd cc
notice_winds (micro.Close c) ms raised e rest = absurd cc
notice_winds (micro.Unpower c) ms raised e rest = absurd cc
notice_winds micro.End ms raised e rest = absurd cc

-- notices wind down, whatever is raised
pub notices_wind : (ms : List Micro) (raised : List ℕ) → list_all is_notice ms ≡ true → winds_down ms raised ≡ true
notices_wind [] raised all = refl
notices_wind (m ∷ ms) raised all =
    notice_winds m ms raised (both_left (is_notice m) (list_all is_notice ms) all) (notices_wind ms raised (both_right (is_notice m) (list_all is_notice ms) all))

-- the falls of the raised PLLs wind down, with notices behind them
pub falls_wind : (raised : List ℕ) (ms : List Micro) → list_all is_notice ms ≡ true → winds_down (map (λ y. micro.Fall (clock_id y)) raised ++ ms) raised ≡ true
falls_wind [] ms all = notices_wind ms [] all
falls_wind (y ∷ ys) ms all =
    ap (λ (t : Bool). (t || is_in y ys) && winds_down (map (λ z. micro.Fall (clock_id z)) ys ++ ms) (if t then ys else y ∷ without_one y ys)) (test_same y)
    ∙ falls_wind ys ms all

pub notice_calm : (m : Micro) → is_notice m ≡ true → may_time_out m ≡ false
notice_calm (micro.Notify kind c id old new) e = refl
notice_calm (micro.Raise x) e = absurd cc
notice_calm (micro.Poll y) e = absurd cc
notice_calm (micro.Fall y) e = refl
notice_calm (micro.HoldPrepare x) e = refl
notice_calm (micro.HoldEnable x) e = refl
notice_calm (micro.Relink c p) e = refl
notice_calm (micro.WriteMux c place) e = refl
notice_calm (micro.DropEnable x) e = refl
notice_calm (micro.DropPrepare x) e = refl
notice_calm (micro.Lower x) e = refl
notice_calm (micro.Visit c) e = refl
notice_calm (micro.Register c) e = refl
notice_calm (micro.Settle c) e = refl
notice_calm (micro.Close c) e = refl
notice_calm (micro.Unpower c) e = refl
notice_calm micro.End e = refl

-- notices don't time out
pub notices_calm : (ms : List Micro) → list_all is_notice ms ≡ true → list_any may_time_out ms ≡ false
notices_calm [] all = refl
notices_calm (m ∷ ms) all =
    ap (λ (t : Bool). t || list_any may_time_out ms) (notice_calm m (both_left (is_notice m) (list_all is_notice ms) all))
    ∙ notices_calm ms (both_right (is_notice m) (list_all is_notice ms) all)

pub falls_calm : (raised : List ℕ) → list_any may_time_out (map (λ y. micro.Fall (clock_id y)) raised) ≡ false
falls_calm [] = refl
falls_calm (y ∷ ys) = falls_calm ys

-- ---- a script cut short

-- what is left of a script that is cut short
pub record CutsWell (ms ns : List Micro) : Type 0 where
  pub script : list_all is_scripted ns ≡ true
  pub last : ends_last ns ≡ true

pub cut_behind : (m : Micro) (ms : List Micro) → list_all is_scripted (m ∷ ms) ≡ true → ends_last (m ∷ ms) ≡ true → CutsWell (m ∷ ms) ms
cut_behind m ms all last = record {
  script = both_right (is_scripted m) (list_all is_scripted ms) all;
  last = both_right (not (is_end m) || is_none (slice_get ms 0)) (ends_last ms) last;
}

cut_first : (test : Micro → Bool) (ms : List Micro) → list_all is_scripted ms ≡ true → ends_last ms ≡ true → CutsWell ms (from_first test ms)
cut_first test [] all last = record { script = refl; last = refl }
cut_first test (m ∷ ms) all last = one (test m) (let cut = cut_behind m ms all last in cut_first test ms cut.script cut.last) where
  one : (t : Bool) → CutsWell ms (from_first test ms) → CutsWell (m ∷ ms) (if t then m ∷ ms else from_first test ms)
  one true rest = record { script = all; last = last }
  one false rest = record { script = rest.script; last = rest.last }

cut_after : (test : Micro → Bool) (ms : List Micro) → list_all is_scripted ms ≡ true → ends_last ms ≡ true → CutsWell ms (behind_first test ms)
cut_after test [] all last = record { script = refl; last = refl }
cut_after test (m ∷ ms) all last = one (test m) (cut_behind m ms all last) (let cut = cut_behind m ms all last in cut_after test ms cut.script cut.last) where
  one : (t : Bool) → CutsWell (m ∷ ms) ms → CutsWell ms (behind_first test ms) → CutsWell (m ∷ ms) (if t then ms else behind_first test ms)
  one true here rest = here
  one false here rest = record { script = rest.script; last = rest.last }

cut_lets : (ms : List Micro) → list_all is_scripted ms ≡ true → ends_last ms ≡ true → CutsWell ms (behind_lets ms)
cut_lets [] all last = record { script = refl; last = refl }
cut_lets (m ∷ ms) all last = one (lets_go m) (let cut = cut_behind m ms all last in cut_lets ms cut.script cut.last) where
  one : (t : Bool) → CutsWell ms (behind_lets ms) → CutsWell (m ∷ ms) (if t then behind_lets ms else m ∷ ms)
  one true rest = record { script = rest.script; last = rest.last }
  one false rest = record { script = all; last = last }

-- an end is no visit, so after a visit something may be dropped
cut_alone : (ms : List Micro) → IfSome (slice_get ms 0) (λ m. is_visit m ≡ true) → list_all is_scripted ms ≡ true → ends_last ms ≡ true → CutsWell ms (first_alone ms)
cut_alone [] first all last = record { script = refl; last = refl }
cut_alone (m ∷ ms) first all last =
    let cut = cut_behind m ms all last in
    let rest = cut_lets ms cut.script cut.last in
    record {
      script = and_from (is_scripted m) (list_all is_scripted (behind_lets ms)) (both_left (is_scripted m) (list_all is_scripted ms) all) rest.script;
      last = and_from (not (is_end m) || is_none (slice_get (behind_lets ms) 0)) (ends_last (behind_lets ms)) (no_end m first (is_none (slice_get (behind_lets ms) 0))) rest.last;
    } where
      no_end : (n : Micro) → is_visit n ≡ true → (b : Bool) → (not (is_end n) || b) ≡ true
      no_end (micro.Visit c) e b = refl
      no_end _ e b = absurd cc

visit_first : (ms : List Micro) → IfSome (slice_get (from_first is_visit ms) 0) (λ m. is_visit m ≡ true)
visit_first [] = tt
visit_first (m ∷ ms) = one (is_visit m) refl (visit_first ms) where
  one : (t : Bool) → is_visit m ≡ t → IfSome (slice_get (from_first is_visit ms) 0) (λ n. is_visit n ≡ true) → IfSome (slice_get (cond t (m ∷ ms) (from_first is_visit ms)) 0) (λ n. is_visit n ≡ true)
  one true e rest = e
  one false e rest = rest

cut_visit : (ms : List Micro) → list_all is_scripted ms ≡ true → ends_last ms ≡ true → CutsWell ms (first_alone (from_first is_visit ms))
cut_visit ms all last =
    let from = cut_first is_visit ms all last in
    let alone = cut_alone (from_first is_visit ms) (visit_first ms) from.script from.last in
    record { script = alone.script; last = alone.last }

pub cuts_well : (what : Sleeping) (ms : List Micro) → list_all is_scripted ms ≡ true → ends_last ms ≡ true → CutsWell ms (cut_short what ms)
cuts_well (call.Prepare h) ms all last = cut_first is_end ms all last
cuts_well (call.SetParent h p) ms all last = cut_first is_end ms all last
cuts_well (call.Probe c) ms all last = one (list_any is_register ms) where
  one : (t : Bool) → CutsWell ms (if t then from_first is_end ms else behind_first is_settle ms)
  one true = cut_first is_end ms all last
  one false = cut_after is_settle ms all last
cuts_well call.Sweep ms all last =
    let behind = cut_after is_close ms all last in
    let lets = cut_lets (behind_first is_close ms) behind.script behind.last in
    record { script = lets.script; last = lets.last }
cuts_well (call.Get found) ms all last = cut_visit ms all last
cuts_well (call.Put h) ms all last = cut_visit ms all last
cuts_well (call.Unprepare h) ms all last = cut_visit ms all last
cuts_well (call.GetRate h) ms all last = cut_visit ms all last
cuts_well (call.RoundRate h x) ms all last = cut_visit ms all last
cuts_well (call.SetRate h x) ms all last = cut_visit ms all last
cuts_well (call.SetRateExclusive h x) ms all last = cut_visit ms all last
cuts_well (call.SetRange h least most) ms all last = cut_visit ms all last
cuts_well (call.GetParent h) ms all last = cut_visit ms all last
cuts_well (call.ExclusiveGet h) ms all last = cut_visit ms all last
cuts_well (call.ExclusivePut h) ms all last = cut_visit ms all last
cuts_well (call.NotifierAdd h id priority policy) ms all last = cut_visit ms all last
cuts_well (call.NotifierRemove h id) ms all last = cut_visit ms all last

pub end_calm : (m : Micro) → is_end m ≡ true → may_time_out m ≡ false
end_calm micro.End e = refl
end_calm (micro.Notify kind c id old new) e = refl
end_calm (micro.Raise x) e = absurd cc
end_calm (micro.Poll y) e = absurd cc
end_calm (micro.Fall y) e = refl
end_calm (micro.HoldPrepare x) e = refl
end_calm (micro.HoldEnable x) e = refl
end_calm (micro.Relink c p) e = refl
end_calm (micro.WriteMux c place) e = refl
end_calm (micro.DropEnable x) e = refl
end_calm (micro.DropPrepare x) e = refl
end_calm (micro.Lower x) e = refl
end_calm (micro.Visit c) e = refl
end_calm (micro.Register c) e = refl
end_calm (micro.Settle c) e = refl
end_calm (micro.Close c) e = refl
end_calm (micro.Unpower c) e = refl

nothing_left : (ms : List Micro) → is_none (slice_get ms 0) ≡ true → ms ≡ []
nothing_left [] e = refl
nothing_left (m ∷ ms) e = absurd cc

-- from its end on a script doesn't time out
pub ending_calm : (ms : List Micro) → ends_last ms ≡ true → list_any may_time_out (from_first is_end ms) ≡ false
ending_calm [] last = refl
ending_calm (m ∷ ms) last = one (is_end m) refl (ending_calm ms (both_right (not (is_end m) || is_none (slice_get ms 0)) (ends_last ms) last)) where
  one : (t : Bool) → is_end m ≡ t → list_any may_time_out (from_first is_end ms) ≡ false → list_any may_time_out (if t then m ∷ ms else from_first is_end ms) ≡ false
  one false e rest = rest
  one true e rest =
      let alone : is_none (slice_get ms 0) ≡ true =
      ap (λ (t : Bool). not t || is_none (slice_get ms 0)) (sym e) ∙ both_left (not (is_end m) || is_none (slice_get ms 0)) (ends_last ms) last in
      let none = nothing_left ms alone in
      ap (λ (t : Bool). t || list_any may_time_out ms) (end_calm m e) ∙ ap (list_any may_time_out) none

-- after a timeout no further one brings notices that have no weight
pub cut_calm : (what : Sleeping) (ms : List Micro) → ends_last ms ≡ true → sets_parent what ≡ true → list_any may_time_out (cut_short what ms) ≡ false
cut_calm (call.SetParent h p) ms last is = ending_calm ms last
cut_calm (call.Prepare h) ms last is = absurd cc
cut_calm (call.Probe c) ms last is = absurd cc
cut_calm call.Sweep ms last is = absurd cc
cut_calm (call.Get found) ms last is = absurd cc
cut_calm (call.Put h) ms last is = absurd cc
cut_calm (call.Unprepare h) ms last is = absurd cc
cut_calm (call.GetRate h) ms last is = absurd cc
cut_calm (call.RoundRate h x) ms last is = absurd cc
cut_calm (call.SetRate h x) ms last is = absurd cc
cut_calm (call.SetRateExclusive h x) ms last is = absurd cc
cut_calm (call.SetRange h least most) ms last is = absurd cc
cut_calm (call.GetParent h) ms last is = absurd cc
cut_calm (call.ExclusiveGet h) ms last is = absurd cc
cut_calm (call.ExclusivePut h) ms last is = absurd cc
cut_calm (call.NotifierAdd h id priority policy) ms last is = absurd cc
cut_calm (call.NotifierRemove h id) ms last is = absurd cc

-- ---- what a step leaves

-- the state that a step leaves, once the gates have followed and it is counted
abbrev pub after : State → State → State
after s y = record (settled s y) { steps = s.steps + 1 }

-- while a step may time out there is weight for the notices that a timeout brings
abbrev pub HasExtra : State → Change → List Micro → Type 0
HasExtra s k ms = list_any may_time_out ms ≡ true → length (aborts_of s k) ≤ k.extra

-- a change that only tells and lets fall in front
pub tells_on : (s y : State) (l : Change) → winds_down l.front l.raised ≡ true → l.again ≡ 0 → CutsWell l.left l.left → HasExtra y l (todo l) → IsPaced (after s (on y l)) l
unfolding settled
tells_on s y l winds first well extra = record { front = tells winds first; script = well.script; last = well.last; aborts = extra }

-- ---- raising

pub raised_on : (s : State) (k : Change) (x z : ℕ) (rest : List Micro) (t : Bool) → IsValid (length s.regs) s.defs → slice_get (reverse (to_raise s k x)) 0 ≡ Some z
    → k.again + length (to_raise s k x) ≤ plls s.defs → CutsWell rest rest → length (aborts_of s k) ≤ k.extra
    → let l : Change = record (changed k [] rest) {
      raised = z ∷ k.raised;
      polls = most_polls;
      again = if t then k.again + 1 else 0;
      front = micro.Poll (clock_id z) ∷ (if t then micro.Raise (clock_id x) ∷ [] else []) ++ [];
    } in IsPaced (after s (on (powered s z true) l)) l
unfolding settled
raised_on s k x z rest true valid at few well extra =
    let l : Change = record (changed k [] rest) { raised = z ∷ k.raised; polls = most_polls; again = k.again + 1; front = micro.Poll (clock_id z) ∷ micro.Raise (clock_id x) ∷ [] } in
    let fewer = raised_fewer s (length s.regs) k l x z (s.steps + 1) valid at refl in
    record { front = polls_to_raise (clock_id z) (clock_id x) refl (omega arith) (omega arith); script = well.script; last = well.last; aborts = λ late. extra }
raised_on s k x z rest false valid at few well extra =
    record { front = polls (clock_id z) refl (omega arith) refl; script = well.script; last = well.last; aborts = λ late. extra }
