-- The flight stays the change of the definitions through a fall, a hold and a visit.
use Rattle.std.proofs.Common.{◌≡◌, ℕ, suc, ◌+◌, ◌||◌, Bool, true, false, cond, List, [], ◌∷◌, ◌++◌, Some, refl, sym, ap, ◌∙◌, subst, arith, length, map, take, drop, nat_eq}
use Rattle.std.specs.Prelude.{slice_get, slice_index, if◌then◌else◌}
use Rattle.std.specs.List.{list_any, list_all}
use Rattle.std.specs.Option.{option_map}
use Rattle.std.proofs.lemmas.Bool.Decides.{nat_tests}
use Rattle.std.proofs.lemmas.List.{length-map, append-nil}
use Rattle.std.proofs.lemmas.List.Folds.{list_any-append}
use Rattle.std.proofs.lemmas.Option.{slice_get-map}
use Rattle.clk_base.specs.declared.clock.ClockId.{ClockId}
use Rattle.clk_base.specs.declared.call.Micro.{Micro}
use Rattle.clk_base.specs.declared.call.Micro.TheVariants as micro
use Rattle.clk_model.specs.Lists.{without_one}
use Rattle.clk_model.specs.State.{State, Change}
use Rattle.clk_model.specs.Chain.{clock_id}
use Rattle.clk_model.specs.Notices.{notifiers_of, post_list}
use Rattle.clk_model.specs.Rate.{rate}
use Rattle.clk_model.specs.Step.{todo, taken, rest_of, left_behind, visit, set_in_chain}
use Rattle.clk_model.specs.Laws.Paced.{may_time_out, is_notice, IsPaced}
use Rattle.clk_model.proofs.WeightLaws.{posts_notices}
use Rattle.clk_flight.specs.declared.front.Front.{Front}
use Rattle.clk_flight.specs.declared.front.Front.TheVariants.{Empty, Poll, Raise, Lower, Falls, Posts}
use Rattle.clk_flight.specs.Fronts.{is_empty, called_off, post_to, front_steps, falls}
use Rattle.clk_flight.specs.Flights.{FlightState, IsChange, Flies, own_first, own_step}
use Rattle.clk_flight.specs.Moves.{fallen, visited}
use Rattle.clk_flight.specs.Steps.{Drops, Visits, told_by_visit}
use Rattle.clk_flight.proofs.KeptLaws.{going_step, falls_steps, posts_steps}
use Rattle.clk_flight.proofs.ChangeLaws.{first_in_front, first_of_part, aborts_noticed, first_noticed, posted, in_front, script_first, left_taken, times_out_before, length-rest, falls_polls, posts_polls, posts_count, posts_steps_are, posts_aborts, none_of}
use Rattle.clk_flight.proofs.PollLaws.{not_of_script, falls_are, falls_aborts, falls_count_is, drop_none}
use Rattle.clk_model.proofs.PacedLaws.{notices_calm}

-- ---- falls

-- the PLL that was raised last falls
fallen_last : (f : FlightState) (s : State) (k : Change) (y : ℕ) (ys : List ℕ) (told left : ℕ)
    → IsChange s.notifiers (record f { front = Falls told left; raised = y ∷ ys }) k
    → IsChange s.notifiers (record f { front = falls ys told left; raised = ys }) (record (taken k) { raised = without_one y k.raised })
fallen_last f s k y ys told left is = record {
  going = is.going;
  driver = is.driver;
  call = is.call;
  front = ap rest_of is.front ∙ sym (falls_are s.notifiers f.script ys told left);
  count =
      let rest = length-rest k.front in
      let had : length k.front ≡ suc (length ys) + left = is.count in
      let count_ = falls_count_is ys told left in
      omega arith;
  steps = falls_steps ys told left;
  notices = falls_aborts f.script ys told left is.notices;
  left = left_taken s.notifiers (record f { front = Falls told left; raised = y ∷ ys }) k is;
  polls = is.polls ∙ sym (falls_polls ys told left);
  again = is.again;
  raised = ap (without_one y) is.raised ∙ ap (λ (t : Bool). cond t ys (y ∷ without_one y ys)) same_place;
  range = is.range;
  extra = is.extra;
  fits = is.fits;
  calls_off = is.calls_off;
  vetoed = is.vetoed;
  timed_out = is.timed_out;
  missed = is.missed;
  aborts = λ may. is.aborts (times_out_before k may);
} where
  same_place : nat_eq y y ≡ true
  same_place = grind (arith, nat_tests)

fall_at : (f : FlightState) (s : State) (k : Change) (y : ClockId) (told left : ℕ) (raised : List ℕ) → f.front ≡ Falls told left → f.raised ≡ raised
    → IsChange s.notifiers f k → slice_get (todo k) 0 ≡ Some (micro.Fall y)
    → IsChange s.notifiers (fallen f) (record (taken k) { raised = without_one y.0 k.raised })
fall_at f s k y told left [] at none is first =
    let steps_ : slice_get (front_steps s.notifiers f.script f.raised (Falls told left)) 0 ≡ Some (micro.Fall y) =
    sym (first_in_front s.notifiers f k (Falls told left) at refl is) ∙ first in
    let own : slice_get (take left (drop told (map called_off f.script))) 0 ≡ Some (micro.Fall y) =
    sym (ap (λ (ys : List ℕ). slice_get (map (λ z. micro.Fall (clock_id z)) ys ++ take left (drop told (map called_off f.script))) 0) none) ∙ steps_ in
    let no : false ≡ true = first_noticed (take left (drop told (map called_off f.script))) (micro.Fall y) own (aborts_noticed s.notifiers f k told left at is) in
    absurd cc
fall_at f s k y told left (z ∷ zs) at some is first =
    let whole : f ≡ record f { front = Falls told left; raised = z ∷ zs } = ap (λ (fr : Front). record f { front = fr }) at ∙ ap (λ (ys : List ℕ). record f { front = Falls told left; raised = ys }) some in
    let steps_ : slice_get (front_steps s.notifiers f.script f.raised (Falls told left)) 0 ≡ Some (micro.Fall y) =
    sym (first_in_front s.notifiers f k (Falls told left) at refl is) ∙ first in
    let own : Some (micro.Fall (clock_id z)) ≡ Some (micro.Fall y) =
    sym (ap (λ (ys : List ℕ). slice_get (map (λ x. micro.Fall (clock_id x)) ys ++ take left (drop told (map called_off f.script))) 0) some) ∙ steps_ in
    let same : clock_id z ≡ y = cc in
    subst (λ (g : FlightState). IsChange s.notifiers (fallen g) (record (taken k) { raised = without_one y.0 k.raised })) (sym whole)
    (subst (λ (c : ClockId). IsChange s.notifiers (record f { front = falls zs told left; raised = zs }) (record (taken k) { raised = without_one c.0 k.raised })) same
    (fallen_last f s k z zs told left (subst (λ (g : FlightState). IsChange s.notifiers g k) whole is)))

fall_of : (f : FlightState) (s : State) (k : Change) (y : ClockId) (front : Front) → f.front ≡ front
    → IsChange s.notifiers f k → slice_get (todo k) 0 ≡ Some (micro.Fall y) → IsPaced s k
    → IsChange s.notifiers (fallen f) (record (taken k) { raised = without_one y.0 k.raised })
fall_of f s k y Empty at is first paced =
    let own = script_first s.notifiers f k (ap is_empty at) is in
    let no : false ≡ true = not_of_script f s.notifiers s k (micro.Fall y) is paced (sym own.1 ∙ first) in
    absurd cc
fall_of f s k y (Poll pll n again) at is first paced =
    let no : Some (micro.Poll pll) ≡ Some (micro.Fall y) = sym (first_in_front s.notifiers f k (Poll pll n again) at refl is) ∙ first in absurd cc
fall_of f s k y (Raise x) at is first paced =
    let no : Some (micro.Raise x) ≡ Some (micro.Fall y) = sym (first_in_front s.notifiers f k (Raise x) at refl is) ∙ first in absurd cc
fall_of f s k y (Lower x) at is first paced =
    let no : Some (micro.Lower x) ≡ Some (micro.Fall y) = sym (first_in_front s.notifiers f k (Lower x) at refl is) ∙ first in absurd cc
fall_of f s k y (Falls told left) at is first paced = fall_at f s k y told left f.raised at refl is first
fall_of f s k y (Posts c told left old new) at is first paced =
    let own : option_map (post_to c old new) (slice_get (notifiers_of s.notifiers c.0) told) ≡ Some (micro.Fall y) =
    sym (first_of_part told left (map (post_to c old new) (notifiers_of s.notifiers c.0)) (in_front s.notifiers f k (Posts c told left old new) at refl is)
    ∙ slice_get-map (post_to c old new) (notifiers_of s.notifiers c.0) told)
    ∙ sym (first_in_front s.notifiers f k (Posts c told left old new) at refl is) ∙ first in
    let no : false ≡ true = posted c old new (slice_get (notifiers_of s.notifiers c.0) told) (micro.Fall y) own in
    absurd cc

pub fallen-change : (f : FlightState) → Drops f (fallen f)
fallen-change f s k y is first paced = fall_of f s k y f.front refl is first paced

-- ---- holds

empty_is : (front : Front) → is_empty front ≡ true → front ≡ Empty
empty_is Empty e = refl
empty_is (Poll pll n again) e = absurd cc
empty_is (Raise x) e = absurd cc
empty_is (Lower x) e = absurd cc
empty_is (Falls told left) e = absurd cc
empty_is (Posts c told left old new) e = absurd cc

-- ---- visits

take_all : (ms : List Micro) → take (length ms) ms ≡ ms
take_all [] = refl
take_all (m ∷ ms) = ap (λ xs. m ∷ xs) (take_all ms)

-- the notices that a visit puts in front
told_are : (f : FlightState) (s : State) (k : Change) (c : ClockId) (told old new : ℕ) → told ≡ told_by_visit s k c.0 → old ≡ slice_index k.before c.0 → new ≡ slice_index k.outcome c.0
    → (if nat_eq (rate s.defs (set_in_chain s k c.0) s.clocks c.0) (slice_index k.before c.0) then [] else post_list (record { before = k.before; outcome = k.outcome }) s.notifiers c.0)
    ≡ take told (drop 0 (map (post_to c old new) (notifiers_of s.notifiers c.0)))
told_are f s k c told old new is was will =
    one (nat_eq (rate s.defs (set_in_chain s k c.0) s.clocks c.0) (slice_index k.before c.0)) is where
      one : (t : Bool) → told ≡ (if t then 0 else length (notifiers_of s.notifiers c.0))
          → (if t then [] else post_list (record { before = k.before; outcome = k.outcome }) s.notifiers c.0) ≡ take told (drop 0 (map (post_to c old new) (notifiers_of s.notifiers c.0)))
      one true n = sym (ap (λ (m : ℕ). take m (drop 0 (map (post_to c old new) (notifiers_of s.notifiers c.0)))) n ∙ none_of (drop 0 (map (post_to c old new) (notifiers_of s.notifiers c.0))))
      one false n =
          ap (λ (o : ℕ). map (post_to c o (slice_index k.outcome c.0)) (notifiers_of s.notifiers c.0)) (sym was)
          ∙ ap (λ (o : ℕ). map (post_to c old o) (notifiers_of s.notifiers c.0)) (sym will)
          ∙ sym (take_all (map (post_to c old new) (notifiers_of s.notifiers c.0)))
          ∙ ap (λ (m : ℕ). take m (map (post_to c old new) (notifiers_of s.notifiers c.0))) (length-map (notifiers_of s.notifiers c.0) (post_to c old new) ∙ sym n)
          ∙ sym (ap (take told) (drop_none (map (post_to c old new) (notifiers_of s.notifiers c.0))))

told_noticed : (s : State) (k : Change) (c : ℕ) (t : Bool) → list_all is_notice (if t then [] else post_list (record { before = k.before; outcome = k.outcome }) s.notifiers c) ≡ true
told_noticed s k c true = refl
told_noticed s k c false = posts_notices (record { before = k.before; outcome = k.outcome }) s.notifiers c

-- how many they are
told_count : (s : State) (k : Change) (c : ℕ) (t : Bool)
    → length (if t then [] else post_list (record { before = k.before; outcome = k.outcome }) s.notifiers c) ≡ (if t then 0 else length (notifiers_of s.notifiers c))
told_count s k c true = refl
told_count s k c false = length-map (notifiers_of s.notifiers c) (post_to (clock_id c) (slice_index k.before c) (slice_index k.outcome c))

visit_script : (f : FlightState) (front : Front) (c : ClockId) → own_first f front ≡ Some (micro.Visit c) → front ≡ Empty
visit_script f Empty c own = refl
visit_script f (Poll pll n again) c own = absurd cc
visit_script f (Raise x) c own = absurd cc
visit_script f (Lower x) c own = absurd cc
visit_script f (Falls told left) c own = absurd cc
visit_script f (Posts d told left old new) c own = absurd cc

visited_still : (f : FlightState) (s : State) (k : Change) (c : ClockId) (told old new : ℕ) → IsChange s.notifiers (record f { front = Empty }) k
    → slice_get (todo k) 0 ≡ Some (micro.Visit c) → told ≡ told_by_visit s k c.0 → old ≡ slice_index k.before c.0 → new ≡ slice_index k.outcome c.0
    → IsChange s.notifiers (visited (record f { front = Empty }) c told old new) (record (taken k) {
      front = (if nat_eq (rate s.defs (set_in_chain s k c.0) s.clocks c.0) (slice_index k.before c.0) then [] else post_list (record { before = k.before; outcome = k.outcome }) s.notifiers c.0)
          ++ rest_of k.front;
    })
visited_still f s k c told old new is first tells was will = record {
  going = is.going;
  driver = is.driver;
  call = is.call;
  front = front_is ∙ told_are f s k c told old new tells was will ∙ sym (posts_steps_are s.notifiers f.script f.raised c 0 told old new);
  count =
      ap (λ (ms : List Micro). length ms) front_is
      ∙ told_count s k c.0 (nat_eq (rate s.defs (set_in_chain s k c.0) s.clocks c.0) (slice_index k.before c.0))
      ∙ sym tells ∙ sym (posts_count (length f.raised) c 0 told old new);
  steps = posts_steps (length f.raised) c 0 told old new;
  notices = ap (list_all is_notice) (posts_aborts f.script c 0 told old new);
  left = left_taken s.notifiers (record f { front = Empty }) k is;
  polls = is.polls ∙ sym (posts_polls c 0 told old new);
  again = is.again;
  raised = is.raised;
  range = is.range;
  extra = is.extra;
  fits = is.fits;
  calls_off = is.calls_off;
  vetoed = is.vetoed;
  timed_out = is.timed_out;
  missed = is.missed;
  aborts = λ may. is.aborts (times_out_before k (in_time may));
} where
  nil : k.front ≡ []
  nil = (script_first s.notifiers (record f { front = Empty }) k refl is).0

  front_is : (if nat_eq (rate s.defs (set_in_chain s k c.0) s.clocks c.0) (slice_index k.before c.0) then [] else post_list (record { before = k.before; outcome = k.outcome }) s.notifiers c.0)
      ++ rest_of k.front
      ≡ (if nat_eq (rate s.defs (set_in_chain s k c.0) s.clocks c.0) (slice_index k.before c.0) then [] else post_list (record { before = k.before; outcome = k.outcome }) s.notifiers c.0)
  front_is =
      ap (λ (ms : List Micro). (if nat_eq (rate s.defs (set_in_chain s k c.0) s.clocks c.0) (slice_index k.before c.0) then [] else post_list (record { before = k.before; outcome = k.outcome }) s.notifiers c.0) ++ rest_of ms) nil
      ∙ append-nil (if nat_eq (rate s.defs (set_in_chain s k c.0) s.clocks c.0) (slice_index k.before c.0) then [] else post_list (record { before = k.before; outcome = k.outcome }) s.notifiers c.0)

  in_time : list_any may_time_out (((if nat_eq (rate s.defs (set_in_chain s k c.0) s.clocks c.0) (slice_index k.before c.0) then [] else post_list (record { before = k.before; outcome = k.outcome }) s.notifiers c.0) ++ rest_of k.front) ++ left_behind k.front k.left) ≡ true
      → list_any may_time_out (rest_of k.front ++ left_behind k.front k.left) ≡ true
  in_time may =
      let posts_ : List Micro = if nat_eq (rate s.defs (set_in_chain s k c.0) s.clocks c.0) (slice_index k.before c.0) then [] else post_list (record { before = k.before; outcome = k.outcome }) s.notifiers c.0 in
      let quiet : list_any may_time_out posts_ ≡ false = notices_calm posts_ (told_noticed s k c.0 (nat_eq (rate s.defs (set_in_chain s k c.0) s.clocks c.0) (slice_index k.before c.0))) in
      ap (λ (ms : List Micro). list_any may_time_out (rest_of ms ++ left_behind k.front k.left)) nil
      ∙ sym (ap (λ (ms : List Micro). list_any may_time_out (ms ++ left_behind k.front k.left)) front_is
      ∙ list_any-append may_time_out posts_ (left_behind k.front k.left)
      ∙ ap (λ (t : Bool). t || list_any may_time_out (left_behind k.front k.left)) quiet) ∙ may

pub visited-change : (f : FlightState) (c : ClockId) (told old new : ℕ) → own_step f ≡ Some (micro.Visit c) → Visits c told old new f (visited f c told old new)
visited-change f c told old new own s k is first tells was will =
    let at : f.front ≡ Empty = visit_script f f.front c (going_step f.going (own_first f f.front) (micro.Visit c) own) in
    let whole : f ≡ record f { front = Empty } = ap (λ (fr : Front). record f { front = fr }) at in
    subst (λ (g : FlightState). Flies s.notifiers (visited g c told old new) (visit s (taken k) c.0).change) (sym whole)
    (visited_still f s k c told old new (subst (λ (g : FlightState). IsChange s.notifiers g k) whole is) first tells was will)
