-- The flight stays the change of the definitions through a poll, also where it times out.
use Rattle.std.proofs.Common.{◌≡◌, ℕ, zero, suc, ◌+◌, ◌-◌, ◌≤◌, ◌&&◌, ◌||◌, Bool, true, false, cond, List, [], ◌∷◌, ◌++◌, Option, Some, None, refl, sym, ap, ◌∙◌, subst, arith, length, map, take, drop, nat_eq, nat_le}
use Rattle.std.specs.Prelude.{slice_get, is_none, if◌then◌else◌}
use Rattle.std.specs.List.{list_any, list_all}
use Rattle.std.specs.Option.{option_map_or}
use Rattle.std.proofs.lemmas.Bool.Decides.{nat_tests}
use Rattle.std.proofs.lemmas.List.{length-append, length-map}
use Rattle.std.proofs.lemmas.List.Folds.{list_any-append}
use Rattle.clk_base.specs.declared.call.Sleeping.{Sleeping}
use Rattle.clk_base.specs.declared.call.Sleeping.TheVariants as call
use Rattle.clk_base.specs.declared.clock.ClockId.{ClockId}
use Rattle.clk_base.specs.declared.call.Micro.{Micro}
use Rattle.clk_base.specs.declared.call.Micro.TheVariants as micro
use Rattle.clk_model.specs.State.{State, NotifierRow, Change}
use Rattle.clk_model.specs.Chain.{clock_id}
use Rattle.clk_model.specs.Notices.{abort_list}
use Rattle.clk_model.specs.Step.{on, todo, taken, rest_of, left_behind, is_end, from_first, cut_short, missed_by, sets_parent, timed_out, poll}
use Rattle.clk_model.specs.Laws.Paced.{may_time_out, is_notice, is_scripted, ends_last, IsPaced}
use Rattle.clk_model.proofs.Members.{both_left}
use Rattle.clk_model.proofs.WeightLaws.{abort_notices}
use Rattle.clk_flight.specs.declared.front.Front.{Front}
use Rattle.clk_flight.specs.declared.front.Front.TheVariants.{Empty, Poll, Raise, Lower, Falls, Posts}
use Rattle.clk_flight.specs.Fronts.{called_off, front_steps, front_count, front_aborts, falls}
use Rattle.clk_flight.specs.Flights.{FlightState, IsChange, Flies, aborts_over, own_first}
use Rattle.clk_flight.specs.Moves.{timed_out_in, polled_in}
use Rattle.clk_flight.specs.Steps.{Polls}
use Rattle.clk_flight.proofs.KeptLaws.{going_step, falls_steps}
use Rattle.clk_flight.proofs.ChangeLaws.{left_taken, times_out_before, falls_polls, none_of}
use Rattle.clk_model.proofs.PacedLaws.{notices_calm, falls_calm, ending_calm}

-- ---- the script has no poll

first_scripted : (ms : List Micro) (m : Micro) → slice_get ms 0 ≡ Some m → list_all is_scripted ms ≡ true → is_scripted m ≡ true
first_scripted [] m e all = absurd cc
first_scripted (n ∷ ms) m e all = let same : n ≡ m = cc in sym (ap is_scripted same) ∙ both_left (is_scripted n) (list_all is_scripted ms) all

pub not_of_script : (f : FlightState) (notifiers : List NotifierRow) (s : State) (k : Change) (m : Micro) → IsChange notifiers f k → IsPaced s k
    → slice_get f.left 0 ≡ Some m → is_scripted m ≡ true
not_of_script f notifiers s k m is paced first = first_scripted k.left m (ap (λ (ms : List Micro). slice_get ms 0) is.left ∙ first) paced.script

-- ---- what a timeout brings

map-take : (n : ℕ) (ms : List Micro) → map called_off (take n ms) ≡ take n (map called_off ms)
map-take zero ms = ap (map called_off) (none_of ms) ∙ sym (none_of (map called_off ms))
map-take (suc n) [] = refl
map-take (suc n) (m ∷ ms) = ap (λ xs. called_off m ∷ xs) (map-take n ms)

pub drop_none : (ms : List Micro) → drop 0 ms ≡ ms
drop_none [] = refl
drop_none (m ∷ ms) = refl

-- the falls of raised PLLs, and behind them as many notices as are to be called off
pub falls_are : (notifiers : List NotifierRow) (script : List Micro) (raised : List ℕ) (told left : ℕ)
    → front_steps notifiers script raised (falls raised told left) ≡ map (λ y. micro.Fall (clock_id y)) raised ++ take left (drop told (map called_off script))
falls_are notifiers script [] told left = one (nat_eq left 0) refl where
  one : (t : Bool) → nat_eq left 0 ≡ t → front_steps notifiers script [] (cond t Empty (Falls told left)) ≡ take left (drop told (map called_off script))
  one true e = let z : left ≡ 0 = grind (arith, nat_tests) in sym (ap (λ (n : ℕ). take n (drop told (map called_off script))) z ∙ none_of (drop told (map called_off script)))
  one false e = refl
falls_are notifiers script (y ∷ ys) told left = refl

pub falls_aborts : (script : List Micro) (raised : List ℕ) (told left : ℕ) → list_all is_notice (take left (drop told (map called_off script))) ≡ true
    → list_all is_notice (front_aborts script (falls raised told left)) ≡ true
falls_aborts script raised told left all = one (is_none (slice_get raised 0) && nat_eq left 0) where
  one : (t : Bool) → list_all is_notice (front_aborts script (cond t Empty (Falls told left))) ≡ true
  one true = refl
  one false = all

pub falls_count_is : (raised : List ℕ) (told left : ℕ) → front_count (length raised) (falls raised told left) ≡ length raised + left
falls_count_is [] told left = one (nat_eq left 0) refl where
  one : (t : Bool) → nat_eq left 0 ≡ t → front_count 0 (cond t Empty (Falls told left)) ≡ 0 + left
  one true e = grind (arith, nat_tests)
  one false e = omega arith
falls_count_is (y ∷ ys) told left = refl

length-take : (n : ℕ) (ms : List Micro) → n ≤ length ms → length (take n ms) ≡ n
length-take zero ms le = ap (λ (xs : List Micro). length xs) (none_of ms)
length-take (suc n) [] le = absurd (let h : suc n ≤ 0 = le in omega arith)
length-take (suc n) (m ∷ ms) le = let rest = length-take n ms (let h : suc n ≤ suc (length ms) = le in omega arith) in omega arith

-- ---- behind a timeout

-- so behind the timeout of a change of parent no step may time out, and no other call has notices to call off
no_aborts_left : (what : Sleeping) (raised : List ℕ) (aborts some_ left : List Micro) → list_all is_notice aborts ≡ true → ends_last left ≡ true
    → list_any may_time_out ((map (λ y. micro.Fall (clock_id y)) raised ++ aborts) ++ cut_short what left) ≡ true → (if sets_parent what then some_ else []) ≡ []
no_aborts_left (call.SetParent h p) raised aborts some_ left all last may =
    let front : list_any may_time_out (map (λ y. micro.Fall (clock_id y)) raised ++ aborts) ≡ false =
    list_any-append may_time_out (map (λ y. micro.Fall (clock_id y)) raised) aborts
    ∙ ap (λ (t : Bool). t || list_any may_time_out aborts) (falls_calm raised) ∙ notices_calm aborts all in
    let none : list_any may_time_out ((map (λ y. micro.Fall (clock_id y)) raised ++ aborts) ++ from_first is_end left) ≡ false =
    list_any-append may_time_out (map (λ y. micro.Fall (clock_id y)) raised ++ aborts) (from_first is_end left)
    ∙ ap (λ (t : Bool). t || list_any may_time_out (from_first is_end left)) front ∙ ending_calm left last in
    let both : false ≡ true = sym none ∙ may in
    absurd cc
no_aborts_left (call.Get found) raised aborts some_ left all last may = refl
no_aborts_left (call.Put h) raised aborts some_ left all last may = refl
no_aborts_left (call.Prepare h) raised aborts some_ left all last may = refl
no_aborts_left (call.Unprepare h) raised aborts some_ left all last may = refl
no_aborts_left (call.GetRate h) raised aborts some_ left all last may = refl
no_aborts_left (call.RoundRate h x) raised aborts some_ left all last may = refl
no_aborts_left (call.SetRate h x) raised aborts some_ left all last may = refl
no_aborts_left (call.SetRateExclusive h x) raised aborts some_ left all last may = refl
no_aborts_left (call.SetRange h least most) raised aborts some_ left all last may = refl
no_aborts_left (call.GetParent h) raised aborts some_ left all last may = refl
no_aborts_left (call.ExclusiveGet h) raised aborts some_ left all last may = refl
no_aborts_left (call.ExclusivePut h) raised aborts some_ left all last may = refl
no_aborts_left (call.NotifierAdd h id priority policy) raised aborts some_ left all last may = refl
no_aborts_left (call.NotifierRemove h id) raised aborts some_ left all last may = refl
no_aborts_left (call.Probe c) raised aborts some_ left all last may = refl
no_aborts_left call.Sweep raised aborts some_ left all last may = refl

aborts_over_noticed : (notifiers : List NotifierRow) (k : Change) → list_all is_notice (aborts_over notifiers k) ≡ true
aborts_over_noticed notifiers k = one (sets_parent k.call) where
  one : (t : Bool) → list_all is_notice (if t then abort_list (record { before = k.before; outcome = k.outcome }) notifiers k.changing else []) ≡ true
  one true = abort_notices (record { before = k.before; outcome = k.outcome }) notifiers k.changing
  one false = refl

-- ---- polls

first_may : (ms : List Micro) (m : Micro) → slice_get ms 0 ≡ Some m → may_time_out m ≡ true → list_any may_time_out ms ≡ true
first_may [] m e t = absurd cc
first_may (n ∷ ms) m e t = let same : n ≡ m = cc in ap (λ (b : Bool). b || list_any may_time_out ms) (ap may_time_out same ∙ t)

-- what a poll in front is: it may ask so often, and perhaps a raise comes again
abbrev polling : FlightState → ClockId → ℕ → Option ClockId → FlightState
polling f y n again = record f { front = Poll y n again }

-- the PLL locks
locked : (f : FlightState) (s : State) (k : Change) (y : ClockId) (n : ℕ) (again : Option ClockId) → IsChange s.notifiers (polling f y n again) k
    → IsChange s.notifiers (polled_in (polling f y n again) true) (record (taken k) { polls = 0 })
locked f s k y n None is = record {
  going = is.going;
  driver = is.driver;
  call = is.call;
  front = ap rest_of is.front;
  count = ap (λ (ms : List Micro). length (rest_of ms)) is.front;
  steps = tt;
  notices = refl;
  left = left_taken s.notifiers (polling f y n None) k is;
  polls = refl;
  again = is.again;
  raised = is.raised;
  range = is.range;
  extra = is.extra;
  fits = is.fits;
  calls_off = is.calls_off;
  vetoed = is.vetoed;
  timed_out = is.timed_out;
  missed = is.missed;
  aborts = λ may. is.aborts (times_out_before k may);
}
locked f s k y n (Some x) is = record {
  going = is.going;
  driver = is.driver;
  call = is.call;
  front = ap rest_of is.front;
  count = ap (λ (ms : List Micro). length (rest_of ms)) is.front;
  steps = tt;
  notices = refl;
  left = left_taken s.notifiers (polling f y n (Some x)) k is;
  polls = refl;
  again = is.again;
  raised = is.raised;
  range = is.range;
  extra = is.extra;
  fits = is.fits;
  calls_off = is.calls_off;
  vetoed = is.vetoed;
  timed_out = is.timed_out;
  missed = is.missed;
  aborts = λ may. is.aborts (times_out_before k may);
}

-- it doesn't, and is asked again
asked_again : (f : FlightState) (s : State) (k : Change) (y : ClockId) (n : ℕ) (again : Option ClockId) → IsChange s.notifiers (polling f y n again) k
    → slice_get (todo k) 0 ≡ Some (micro.Poll y) → nat_le n 1 ≡ false
    → IsChange s.notifiers (polling f y (n - 1) again) (record (taken k) { polls = k.polls - 1; front = micro.Poll (clock_id y.0) ∷ rest_of k.front })
asked_again f s k y n again is first more = record {
  going = is.going;
  driver = is.driver;
  call = is.call;
  front = ap (λ (ms : List Micro). micro.Poll y ∷ rest_of ms) is.front;
  count = ap (λ (ms : List Micro). length (micro.Poll y ∷ rest_of ms)) is.front ∙ same again;
  steps = grind (arith, nat_tests);
  notices = refl;
  left = left_taken s.notifiers (polling f y n again) k is;
  polls = ap (λ (m : ℕ). m - 1) is.polls;
  again = is.again;
  raised = is.raised;
  range = is.range;
  extra = is.extra;
  fits = is.fits;
  calls_off = is.calls_off;
  vetoed = is.vetoed;
  timed_out = is.timed_out;
  missed = is.missed;
  aborts = λ may. is.aborts (first_may (todo k) (micro.Poll y) first refl);
} where
  same : (o : Option ClockId) → length (micro.Poll y ∷ option_map_or (λ x. micro.Raise x ∷ []) o []) ≡ 1 + option_map_or (λ x. 1) o 0
  same None = refl
  same (Some x) = refl

-- it has been asked often enough
late : (f : FlightState) (s : State) (k : Change) (y : ClockId) (n : ℕ) (again : Option ClockId) → IsChange s.notifiers (polling f y n again) k
    → slice_get (todo k) 0 ≡ Some (micro.Poll y) → ends_last k.left ≡ true
    → IsChange s.notifiers (timed_out_in (polling f y n again)) (record (taken k) {
      polls = 0;
      timed_out = true;
      missed = missed_by k.call (left_behind k.front k.left);
      again = 0;
      extra = 0;
      front = map (λ z. micro.Fall (clock_id z)) k.raised ++ aborts_over s.notifiers k;
      left = cut_short k.call (left_behind k.front k.left);
    })
late f s k y n again is first last = record {
  going = is.going;
  driver = is.driver;
  call = is.call;
  front = front_is ∙ sym (falls_are s.notifiers f.script f.raised 0 f.extra);
  count =
      let whole = length-append (map (λ z. micro.Fall (clock_id z)) k.raised) (aborts_over s.notifiers k) in
      let falls_ = length-map k.raised (λ z. micro.Fall (clock_id z)) in
      let raised_ : length k.raised ≡ length f.raised = ap length is.raised in
      let called : length (aborts_over s.notifiers k) ≡ f.extra =
      ap (λ (ms : List Micro). length ms) aborts_are ∙ length-map (take f.extra f.script) called_off ∙ length-take f.extra f.script is.fits in
      let count_ = falls_count_is f.raised 0 f.extra in
      omega arith;
  steps = falls_steps f.raised 0 f.extra;
  notices = falls_aborts f.script f.raised 0 f.extra (ap (list_all is_notice) (ap (take f.extra) (drop_none (map called_off f.script)) ∙ sym (map-take f.extra f.script)) ∙ is.calls_off);
  left = ap (λ (what : Sleeping). cut_short what (left_behind k.front k.left)) is.call ∙ ap (cut_short f.call) left_is;
  polls = sym (falls_polls f.raised 0 f.extra);
  again = refl;
  raised = is.raised;
  range = is.range;
  extra = refl;
  fits = omega arith;
  calls_off = ap (λ (ms : List Micro). list_all is_notice (map called_off ms)) (none_of f.script);
  vetoed = is.vetoed;
  timed_out = refl;
  missed = ap (λ (what : Sleeping). missed_by what (left_behind k.front k.left)) is.call ∙ ap (missed_by f.call) left_is;
  aborts = λ may.
      no_aborts_left k.call k.raised (aborts_over s.notifiers k) (abort_list (record { before = k.before; outcome = k.outcome }) s.notifiers k.changing) (left_behind k.front k.left)
      (aborts_over_noticed s.notifiers k) (ap ends_last (left_is ∙ sym is.left) ∙ last) may
      ∙ sym (ap (map called_off) (none_of f.script));
} where
  left_is : left_behind k.front k.left ≡ f.left
  left_is = left_taken s.notifiers (polling f y n again) k is

  aborts_are : aborts_over s.notifiers k ≡ map called_off (take f.extra f.script)
  aborts_are = is.aborts (first_may (todo k) (micro.Poll y) first refl)

  front_is : map (λ z. micro.Fall (clock_id z)) k.raised ++ aborts_over s.notifiers k ≡ map (λ z. micro.Fall (clock_id z)) f.raised ++ take f.extra (drop 0 (map called_off f.script))
  front_is =
      ap (λ (ys : List ℕ). map (λ z. micro.Fall (clock_id z)) ys ++ aborts_over s.notifiers k) is.raised
      ∙ ap (λ (ms : List Micro). map (λ z. micro.Fall (clock_id z)) f.raised ++ ms) (aborts_are ∙ map-take f.extra f.script ∙ sym (ap (take f.extra) (drop_none (map called_off f.script))))

answered : (f : FlightState) (s : State) (k : Change) (y : ClockId) (n : ℕ) (again : Option ClockId) (answer : Bool) → IsChange s.notifiers (polling f y n again) k
    → slice_get (todo k) 0 ≡ Some (micro.Poll y) → ends_last k.left ≡ true
    → Flies s.notifiers (polled_in (polling f y n again) answer) (poll s (taken k) y.0 answer).change
answered f s k y n again true is first last = locked f s k y n again is
answered f s k y n again false is first last =
    subst (λ (p : ℕ). Flies s.notifiers (polled_in (polling f y n again) false) (if nat_le p 1 then timed_out s (record (taken k) { polls = 0 }) else on s (record (taken k) { polls = k.polls - 1; front = micro.Poll (clock_id y.0) ∷ rest_of k.front })).change) (sym is.polls)
    (one (nat_le n 1) refl) where
      one : (t : Bool) → nat_le n 1 ≡ t → Flies s.notifiers (if t then timed_out_in (polling f y n again) else polling f y (n - 1) again)
          (if t then timed_out s (record (taken k) { polls = 0 }) else on s (record (taken k) { polls = k.polls - 1; front = micro.Poll (clock_id y.0) ∷ rest_of k.front })).change
      one true e = late f s k y n again is first last
      one false e = asked_again f s k y n again is first e

poll_of : (f : FlightState) (answer : Bool) (s : State) (k : Change) (y : ClockId) (front : Front) → f.front ≡ front → own_first f front ≡ Some (micro.Poll y)
    → IsChange s.notifiers f k → slice_get (todo k) 0 ≡ Some (micro.Poll y) → IsPaced s k
    → Flies s.notifiers (polled_in f answer) (poll s (taken k) y.0 answer).change
poll_of f answer s k y Empty at own is first paced = let no : false ≡ true = not_of_script f s.notifiers s k (micro.Poll y) is paced own in absurd cc
poll_of f answer s k y (Poll pll n again) at own is first paced =
    let same : pll ≡ y = cc in
    let whole : f ≡ polling f y n again = ap (λ (fr : Front). record f { front = fr }) (at ∙ ap (λ (p : ClockId). Poll p n again) same) in
    subst (λ (g : FlightState). Flies s.notifiers (polled_in g answer) (poll s (taken k) y.0 answer).change) (sym whole)
    (answered f s k y n again answer (subst (λ (g : FlightState). IsChange s.notifiers g k) whole is) first paced.last)
poll_of f answer s k y (Raise x) at own is first paced = absurd cc
poll_of f answer s k y (Lower x) at own is first paced = absurd cc
poll_of f answer s k y (Falls told left) at own is first paced = absurd cc
poll_of f answer s k y (Posts c told left old new) at own is first paced = absurd cc

pub polled-change : (f : FlightState) (answer : Bool) → Polls answer f (polled_in f answer)
polled-change f answer s k y is own first paced = poll_of f answer s k y f.front refl (going_step f.going (own_first f f.front) (micro.Poll y) own) is first paced
