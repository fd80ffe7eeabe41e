-- What stands in front of a flight, and that the flight stays the change of the definitions where a step is made.
use Rattle.std.proofs.Common.{◌≡◌, ℕ, zero, suc, ◌+◌, ◌-◌, ◌<◌, ◌&&◌, ◌||◌, Bool, true, false, cond, List, [], ◌∷◌, ◌++◌, Option, Some, None, refl, sym, ap, ◌∙◌, arith, length, map, take, drop, nat_eq}
use Rattle.std.specs.Prelude.{slice_get, is_none, option_and_then}
use Rattle.std.specs.List.{list_any, list_all}
use Rattle.std.specs.Option.{option_map}
use Rattle.std.proofs.lemmas.Bool.Decides.{nat_tests}
use Rattle.std.proofs.lemmas.Option.{slice_get-map}
use Rattle.clk_base.specs.declared.clock.ClockId.{ClockId}
use Rattle.clk_base.specs.declared.call.Micro.{Micro}
use Rattle.clk_base.specs.declared.call.Micro.TheVariants as micro
use Rattle.clk_model.specs.State.{NotifierRow, Change}
use Rattle.clk_model.specs.Chain.{clock_id}
use Rattle.clk_model.specs.Notices.{notifiers_of}
use Rattle.clk_model.specs.Step.{todo, taken, rest_of, left_behind}
use Rattle.clk_model.specs.Laws.Paced.{may_time_out, is_notice}
use Rattle.clk_model.proofs.Members.{both_left, both_right}
use Rattle.clk_flight.specs.declared.front.Front.{Front}
use Rattle.clk_flight.specs.declared.front.Front.TheVariants.{Empty, Poll, Raise, Lower, Falls, Posts}
use Rattle.clk_flight.specs.Fronts.{is_empty, polls_of, called_off, abort_of, post_to, front_steps, front_aborts, front_count, HasSteps, falls, posts, front_behind, script_behind}
use Rattle.clk_flight.specs.Flights.{FlightState, IsChange, fall_or_abort, seeks_plls}
use Rattle.clk_flight.specs.Moves.{gone_on, found_none}
use Rattle.clk_flight.specs.Steps.{is_taken, GoesOn, FindsNone}
use Rattle.clk_flight.proofs.KeptLaws.{behind_steps}

-- ---- what comes first

first_there : (xs ys : List Micro) → is_none (slice_get xs 0) ≡ false → slice_get (xs ++ ys) 0 ≡ slice_get xs 0
first_there [] ys e = absurd cc
first_there (x ∷ xs) ys e = refl

none_taken : (ms : List Micro) → is_none (slice_get (take 0 ms) 0) ≡ false → ⊥
none_taken [] e = cc
none_taken (m ∷ ms) e = cc

pub first_of_part : (n k : ℕ) (xs : List Micro) → is_none (slice_get (take k (drop n xs)) 0) ≡ false → slice_get (take k (drop n xs)) 0 ≡ slice_get xs n
first_of_part n zero xs e = absurd (none_taken (drop n xs) e)
first_of_part zero (suc k) [] e = refl
first_of_part zero (suc k) (x ∷ xs) e = refl
first_of_part (suc n) (suc k) [] e = absurd cc
first_of_part (suc n) (suc k) (x ∷ xs) e = first_of_part n (suc k) xs e

none_at : (ms : List Micro) → is_none (slice_get ms 0) ≡ nat_eq (length ms) 0
none_at [] = refl
none_at (m ∷ ms) = grind (arith, nat_tests)

counted_empty : (raised : ℕ) (front : Front) → HasSteps raised front → nat_eq (front_count raised front) 0 ≡ is_empty front
counted_empty raised Empty has = grind (arith, nat_tests)
counted_empty raised (Poll pll polls again) has = grind (arith, nat_tests)
counted_empty raised (Raise x) has = grind (arith, nat_tests)
counted_empty raised (Lower x) has = grind (arith, nat_tests)
counted_empty raised (Falls told left) has = let some : 0 < left + raised = has in grind (arith, nat_tests)
counted_empty raised (Posts c told left old new) has = let some : 0 < left = has in grind (arith, nat_tests)

-- something stands in front exactly where the front isn't empty
pub full : (notifiers : List NotifierRow) (f : FlightState) (k : Change) → IsChange notifiers f k → is_none (slice_get k.front 0) ≡ is_empty f.front
full notifiers f k is = none_at k.front ∙ ap (λ (n : ℕ). nat_eq n 0) is.count ∙ counted_empty (length f.raised) f.front is.steps

pub in_front : (notifiers : List NotifierRow) (f : FlightState) (k : Change) (front : Front) → f.front ≡ front → is_empty front ≡ false → IsChange notifiers f k
    → is_none (slice_get (front_steps notifiers f.script f.raised front) 0) ≡ false
in_front notifiers f k front at some is =
    sym (ap (λ (fr : Front). is_none (slice_get (front_steps notifiers f.script f.raised fr) 0)) at)
    ∙ sym (ap (λ (ms : List Micro). is_none (slice_get ms 0)) is.front) ∙ full notifiers f k is ∙ ap is_empty at ∙ some

pub first_in_front : (notifiers : List NotifierRow) (f : FlightState) (k : Change) (front : Front) → f.front ≡ front → is_empty front ≡ false → IsChange notifiers f k
    → slice_get (todo k) 0 ≡ slice_get (front_steps notifiers f.script f.raised front) 0
first_in_front notifiers f k front at some is =
    let same : k.front ≡ front_steps notifiers f.script f.raised front = is.front ∙ ap (front_steps notifiers f.script f.raised) at in
    ap (λ (ms : List Micro). slice_get (ms ++ k.left) 0) same
    ∙ first_there (front_steps notifiers f.script f.raised front) k.left (in_front notifiers f k front at some is)

pub first_noticed : (ms : List Micro) (m : Micro) → slice_get ms 0 ≡ Some m → list_all is_notice ms ≡ true → is_notice m ≡ true
first_noticed [] m e all = absurd cc
first_noticed (n ∷ ms) m e all = let same : n ≡ m = cc in sym (ap is_notice same) ∙ both_left (is_notice n) (list_all is_notice ms) all

called_off_noticed : (m : Micro) → is_notice (called_off m) ≡ is_notice m
called_off_noticed (micro.Notify kind c id old new) = refl
called_off_noticed (micro.Raise x) = refl
called_off_noticed (micro.Poll x) = refl
called_off_noticed (micro.Fall x) = refl
called_off_noticed (micro.HoldPrepare x) = refl
called_off_noticed (micro.HoldEnable x) = refl
called_off_noticed (micro.Relink c p) = refl
called_off_noticed (micro.WriteMux c p) = refl
called_off_noticed (micro.DropEnable x) = refl
called_off_noticed (micro.DropPrepare x) = refl
called_off_noticed (micro.Lower x) = refl
called_off_noticed (micro.Visit c) = refl
called_off_noticed (micro.Register c) = refl
called_off_noticed (micro.Settle c) = refl
called_off_noticed (micro.Close c) = refl
called_off_noticed (micro.Unpower c) = refl
called_off_noticed micro.End = refl

-- the notice at a place of a script, where what is called off there is one
abort_first : (o : Option Micro) (ms : List Micro) → slice_get ms 0 ≡ option_map called_off o → list_all is_notice ms ≡ true → option_and_then abort_of o ≡ slice_get ms 0
abort_first None ms e all = sym e
abort_first (Some m) ms e all =
    ap (λ (t : Bool). cond t (Some (called_off m)) None) (sym (called_off_noticed m) ∙ first_noticed ms (called_off m) e all) ∙ sym e

fall_first : (script : List Micro) (told left : ℕ) (raised : List ℕ)
    → is_none (slice_get (map (λ y. micro.Fall (clock_id y)) raised ++ take left (drop told (map called_off script))) 0) ≡ false
    → list_all is_notice (take left (drop told (map called_off script))) ≡ true
    → fall_or_abort script told raised ≡ slice_get (map (λ y. micro.Fall (clock_id y)) raised ++ take left (drop told (map called_off script))) 0
fall_first script told left [] some all =
    abort_first (slice_get script told) (take left (drop told (map called_off script))) (first_of_part told left (map called_off script) some ∙ slice_get-map called_off script told) all
fall_first script told left (y ∷ ys) some all = refl

pub aborts_noticed : (notifiers : List NotifierRow) (f : FlightState) (k : Change) (told left : ℕ) → f.front ≡ Falls told left → IsChange notifiers f k
    → list_all is_notice (take left (drop told (map called_off f.script))) ≡ true
aborts_noticed notifiers f k told left at is = ap (λ (fr : Front). list_all is_notice (front_aborts f.script fr)) (sym at) ∙ is.notices

pub falls_first : (notifiers : List NotifierRow) (f : FlightState) (k : Change) (told left : ℕ) → f.front ≡ Falls told left → IsChange notifiers f k
    → fall_or_abort f.script told f.raised ≡ slice_get (todo k) 0
falls_first notifiers f k told left at is =
    fall_first f.script told left f.raised (in_front notifiers f k (Falls told left) at refl is) (aborts_noticed notifiers f k told left at is)
    ∙ sym (first_in_front notifiers f k (Falls told left) at refl is)

pub posts_first : (notifiers : List NotifierRow) (f : FlightState) (k : Change) (c : ClockId) (told left old new : ℕ) → f.front ≡ Posts c told left old new
    → IsChange notifiers f k → option_map (post_to c old new) (slice_get (notifiers_of notifiers c.0) told) ≡ slice_get (todo k) 0
posts_first notifiers f k c told left old new at is =
    sym (first_in_front notifiers f k (Posts c told left old new) at refl is
    ∙ first_of_part told left (map (post_to c old new) (notifiers_of notifiers c.0)) (in_front notifiers f k (Posts c told left old new) at refl is)
    ∙ slice_get-map (post_to c old new) (notifiers_of notifiers c.0) told)

-- each of them is a notice
pub posted : (c : ClockId) (old new : ℕ) (o : Option NotifierRow) (m : Micro) → option_map (post_to c old new) o ≡ Some m → is_notice m ≡ true
posted c old new None m e = absurd cc
posted c old new (Some n) m e = let same : post_to c old new n ≡ m = cc in sym (ap is_notice same)

-- where nothing stands in front, the script's own step comes first
pub script_first : (notifiers : List NotifierRow) (f : FlightState) (k : Change) → is_empty f.front ≡ true → IsChange notifiers f k
    → (k.front ≡ []) × (slice_get (todo k) 0 ≡ slice_get f.left 0)
script_first notifiers f k none is =
    let nil = nothing k.front (full notifiers f k is ∙ none) in
    (nil, ap (λ (ms : List Micro). slice_get (ms ++ k.left) 0) nil ∙ ap (λ (ms : List Micro). slice_get ms 0) is.left) where
      nothing : (ms : List Micro) → is_none (slice_get ms 0) ≡ true → ms ≡ []
      nothing [] e = refl
      nothing (m ∷ ms) e = absurd cc

-- ---- the steps behind the first

pub none_of : (ms : List Micro) → take 0 ms ≡ []
none_of [] = refl
none_of (m ∷ ms) = refl

take_nil : (k : ℕ) → let none : List Micro = [] in take k none ≡ none
take_nil zero = refl
take_nil (suc k) = refl

rest_of_part : (n k : ℕ) (xs : List Micro) → rest_of (take k (drop n xs)) ≡ take (k - 1) (drop (n + 1) xs)
rest_of_part n k xs = let one : n + 1 ≡ suc n = omega arith in each n k xs ∙ ap (λ (m : ℕ). take (k - 1) (drop m xs)) (sym one) where
  nil : (j : ℕ) → let none : List Micro = [] in rest_of (take j none) ≡ take (j - 1) none
  nil j = ap rest_of (take_nil j) ∙ sym (take_nil (j - 1))

  each : (i j : ℕ) (ms : List Micro) → rest_of (take j (drop i ms)) ≡ take (j - 1) (drop (suc i) ms)
  each zero zero [] = refl
  each zero zero (m ∷ ms) = sym (none_of ms)
  each zero (suc j) [] = nil (suc j)
  each zero (suc j) (m ∷ ms) = ap (λ (n : ℕ). take n ms) (let e : j ≡ suc j - 1 = omega arith in e)
  each (suc i) j [] = nil j
  each (suc i) j (m ∷ ms) = each i j ms

falls_steps_are : (notifiers : List NotifierRow) (script : List Micro) (told left : ℕ)
    → front_steps notifiers script [] (falls [] told left) ≡ take left (drop told (map called_off script))
falls_steps_are notifiers script told left = one (nat_eq left 0) refl where
  one : (t : Bool) → nat_eq left 0 ≡ t → front_steps notifiers script [] (cond t Empty (Falls told left)) ≡ take left (drop told (map called_off script))
  one true e = let z : left ≡ 0 = grind (arith, nat_tests) in sym (ap (λ (n : ℕ). take n (drop told (map called_off script))) z ∙ none_of (drop told (map called_off script)))
  one false e = refl

pub posts_steps_are : (notifiers : List NotifierRow) (script : List Micro) (raised : List ℕ) (c : ClockId) (told left old new : ℕ)
    → front_steps notifiers script raised (posts c told left old new) ≡ take left (drop told (map (post_to c old new) (notifiers_of notifiers c.0)))
posts_steps_are notifiers script raised c told left old new = one (nat_eq left 0) refl where
  one : (t : Bool) → nat_eq left 0 ≡ t → front_steps notifiers script raised (cond t Empty (Posts c told left old new)) ≡ take left (drop told (map (post_to c old new) (notifiers_of notifiers c.0)))
  one true e =
      let z : left ≡ 0 = grind (arith, nat_tests) in
      sym (ap (λ (n : ℕ). take n (drop told (map (post_to c old new) (notifiers_of notifiers c.0)))) z ∙ none_of (drop told (map (post_to c old new) (notifiers_of notifiers c.0))))
  one false e = refl

-- what stands in front is neither a poll nor a fall
abbrev pub IsTaken : List ℕ → Front → Type 0
IsTaken raised (Poll pll polls again) = ⊥
IsTaken [] (Falls told left) = Unit {0}
IsTaken (y ∷ ys) (Falls told left) = ⊥
IsTaken raised _ = Unit {0}

front_rest : (notifiers : List NotifierRow) (script : List Micro) (raised : List ℕ) (front : Front) → IsTaken raised front
    → rest_of (front_steps notifiers script raised front) ≡ front_steps notifiers script raised (front_behind raised front)
front_rest notifiers script raised Empty t = refl
front_rest notifiers script raised (Poll pll polls again) t = absurd t
front_rest notifiers script raised (Raise x) t = refl
front_rest notifiers script raised (Lower x) t = refl
front_rest notifiers script [] (Falls told left) t = rest_of_part told left (map called_off script) ∙ sym (falls_steps_are notifiers script (told + 1) (left - 1))
front_rest notifiers script (y ∷ ys) (Falls told left) t = absurd t
front_rest notifiers script raised (Posts c told left old new) t =
    rest_of_part told left (map (post_to c old new) (notifiers_of notifiers c.0)) ∙ sym (posts_steps_are notifiers script raised c (told + 1) (left - 1) old new)

pub length-rest : (ms : List Micro) → length (rest_of ms) ≡ length ms - 1
length-rest [] = omega arith
length-rest (m ∷ ms) = omega arith

falls_count : (told left : ℕ) → front_count 0 (falls [] told left) ≡ left
falls_count told left = one (nat_eq left 0) refl where
  one : (t : Bool) → nat_eq left 0 ≡ t → front_count 0 (cond t Empty (Falls told left)) ≡ left
  one true e = grind (arith, nat_tests)
  one false e = omega arith

pub posts_count : (raised : ℕ) (c : ClockId) (told left old new : ℕ) → front_count raised (posts c told left old new) ≡ left
posts_count raised c told left old new = one (nat_eq left 0) refl where
  one : (t : Bool) → nat_eq left 0 ≡ t → front_count raised (cond t Empty (Posts c told left old new)) ≡ left
  one true e = grind (arith, nat_tests)
  one false e = omega arith

count_behind : (raised : List ℕ) (front : Front) → IsTaken raised front → front_count (length raised) front - 1 ≡ front_count (length raised) (front_behind raised front)
count_behind raised Empty t = omega arith
count_behind raised (Poll pll polls again) t = absurd t
count_behind raised (Raise x) t = omega arith
count_behind raised (Lower x) t = omega arith
count_behind [] (Falls told left) t = let n = falls_count (told + 1) (left - 1) in omega arith
count_behind (y ∷ ys) (Falls told left) t = absurd t
count_behind raised (Posts c told left old new) t = let n = posts_count (length raised) c (told + 1) (left - 1) old new in omega arith

pub posts_polls : (c : ClockId) (told left old new : ℕ) → polls_of (posts c told left old new) ≡ 0
posts_polls c told left old new = one (nat_eq left 0) where
  one : (t : Bool) → polls_of (cond t Empty (Posts c told left old new)) ≡ 0
  one true = refl
  one false = refl

pub falls_polls : (raised : List ℕ) (told left : ℕ) → polls_of (falls raised told left) ≡ 0
falls_polls raised told left = one (is_none (slice_get raised 0) && nat_eq left 0) where
  one : (t : Bool) → polls_of (cond t Empty (Falls told left)) ≡ 0
  one true = refl
  one false = refl

polls_behind : (raised : List ℕ) (front : Front) → IsTaken raised front → polls_of front ≡ polls_of (front_behind raised front)
polls_behind raised Empty t = refl
polls_behind raised (Poll pll polls again) t = absurd t
polls_behind raised (Raise x) t = refl
polls_behind raised (Lower x) t = refl
polls_behind [] (Falls told left) t = sym (falls_polls [] (told + 1) (left - 1))
polls_behind (y ∷ ys) (Falls told left) t = absurd t
polls_behind raised (Posts c told left old new) t = sym (posts_polls c (told + 1) (left - 1) old new)

-- what is left of the script
left_same : (ms left : List Micro) (front : Front) → is_none (slice_get ms 0) ≡ is_empty front → left_behind ms left ≡ script_behind front left
left_same [] left Empty e = refl
left_same [] left (Poll pll polls again) e = absurd cc
left_same [] left (Raise x) e = absurd cc
left_same [] left (Lower x) e = absurd cc
left_same [] left (Falls told n) e = absurd cc
left_same [] left (Posts c told n old new) e = absurd cc
left_same (m ∷ ms) left Empty e = absurd cc
left_same (m ∷ ms) left (Poll pll polls again) e = refl
left_same (m ∷ ms) left (Raise x) e = refl
left_same (m ∷ ms) left (Lower x) e = refl
left_same (m ∷ ms) left (Falls told n) e = refl
left_same (m ∷ ms) left (Posts c told n old new) e = refl

pub left_taken : (notifiers : List NotifierRow) (f : FlightState) (k : Change) → IsChange notifiers f k → left_behind k.front k.left ≡ script_behind f.front f.left
left_taken notifiers f k is = left_same k.front k.left f.front (full notifiers f k is) ∙ ap (script_behind f.front) is.left

-- a step that may time out behind the first is one of all
any_rest : (test : Micro → Bool) (ms : List Micro) → list_any test (rest_of ms) ≡ true → list_any test ms ≡ true
any_rest test [] e = e
any_rest test (m ∷ ms) e = one (test m) where
  one : (t : Bool) → (t || list_any test ms) ≡ true
  one true = refl
  one false = e

todo_taken : (front left : List Micro) → rest_of front ++ left_behind front left ≡ rest_of (front ++ left)
todo_taken [] left = refl
todo_taken (m ∷ ms) left = refl

pub times_out_before : (k : Change) → list_any may_time_out (todo (taken k)) ≡ true → list_any may_time_out (todo k) ≡ true
times_out_before k e = any_rest may_time_out (k.front ++ k.left) (sym (ap (list_any may_time_out) (todo_taken k.front k.left)) ∙ e)

-- ---- a step that is neither a poll nor a fall

taken_first : (script : List Micro) (told left : ℕ) (raised : List ℕ) (m : Micro)
    → slice_get (map (λ y. micro.Fall (clock_id y)) raised ++ take left (drop told (map called_off script))) 0 ≡ Some m → is_taken m ≡ true → IsTaken raised (Falls told left)
taken_first script told left [] m e t = tt
taken_first script told left (y ∷ ys) m e t = let same : micro.Fall (clock_id y) ≡ m = cc in let no : false ≡ true = ap is_taken same ∙ t in absurd cc

pub is_taken_front : (notifiers : List NotifierRow) (f : FlightState) (k : Change) (m : Micro) (front : Front) → f.front ≡ front → IsChange notifiers f k
    → slice_get (todo k) 0 ≡ Some m → is_taken m ≡ true → IsTaken f.raised front
is_taken_front notifiers f k m Empty at is first t = tt
is_taken_front notifiers f k m (Poll pll polls again) at is first t =
    let e : Some (micro.Poll pll) ≡ Some m = sym (first_in_front notifiers f k (Poll pll polls again) at refl is) ∙ first in
    let same : micro.Poll pll ≡ m = cc in
    let no : false ≡ true = ap is_taken same ∙ t in
    absurd cc
is_taken_front notifiers f k m (Raise x) at is first t = tt
is_taken_front notifiers f k m (Lower x) at is first t = tt
is_taken_front notifiers f k m (Falls told left) at is first t =
    taken_first f.script told left f.raised m (sym (first_in_front notifiers f k (Falls told left) at refl is) ∙ first) t
is_taken_front notifiers f k m (Posts c told left old new) at is first t = tt

rest_noticed : (ms : List Micro) → list_all is_notice ms ≡ true → list_all is_notice (rest_of ms) ≡ true
rest_noticed [] all = refl
rest_noticed (m ∷ ms) all = both_right (is_notice m) (list_all is_notice ms) all

falls_aborts_are : (script : List Micro) (told left : ℕ) → front_aborts script (falls [] told left) ≡ take left (drop told (map called_off script))
falls_aborts_are script told left = one (nat_eq left 0) refl where
  one : (t : Bool) → nat_eq left 0 ≡ t → front_aborts script (cond t Empty (Falls told left)) ≡ take left (drop told (map called_off script))
  one true e = let z : left ≡ 0 = grind (arith, nat_tests) in sym (ap (λ (n : ℕ). take n (drop told (map called_off script))) z ∙ none_of (drop told (map called_off script)))
  one false e = refl

pub posts_aborts : (script : List Micro) (c : ClockId) (told left old new : ℕ) → front_aborts script (posts c told left old new) ≡ []
posts_aborts script c told left old new = one (nat_eq left 0) where
  one : (t : Bool) → front_aborts script (cond t Empty (Posts c told left old new)) ≡ []
  one true = refl
  one false = refl

pub noticed_behind : (script : List Micro) (raised : List ℕ) (front : Front) → list_all is_notice (front_aborts script front) ≡ true
    → list_all is_notice (front_aborts script (front_behind raised front)) ≡ true
noticed_behind script raised Empty all = refl
noticed_behind script raised (Poll pll polls None) all = refl
noticed_behind script raised (Poll pll polls (Some x)) all = refl
noticed_behind script raised (Raise x) all = refl
noticed_behind script raised (Lower x) all = refl
noticed_behind script [] (Falls told left) all =
    ap (list_all is_notice) (falls_aborts_are script (told + 1) (left - 1) ∙ sym (rest_of_part told left (map called_off script)))
    ∙ rest_noticed (take left (drop told (map called_off script))) all
noticed_behind script (y ∷ ys) (Falls told left) all = all
noticed_behind script raised (Posts c told left old new) all = ap (list_all is_notice) (posts_aborts script c (told + 1) (left - 1) old new)

pub gone_on-change : (f : FlightState) → GoesOn f (gone_on f)
gone_on-change f notifiers k m is first t =
    let shape = is_taken_front notifiers f k m f.front refl is first t in
    let front = ap rest_of is.front ∙ front_rest notifiers f.script f.raised f.front shape in
    record {
      going = is.going;
      driver = is.driver;
      call = is.call;
      front = front;
      count = length-rest k.front ∙ ap (λ (n : ℕ). n - 1) is.count ∙ count_behind f.raised f.front shape;
      steps = behind_steps f.raised f.front is.steps;
      notices = noticed_behind f.script f.raised f.front is.notices;
      left = left_taken notifiers f k is;
      polls = is.polls ∙ polls_behind f.raised f.front shape;
      again = is.again;
      raised = is.raised;
      range = is.range;
      extra = is.extra;
      fits = is.fits;
      calls_off = is.calls_off;
      vetoed = is.vetoed;
      timed_out = is.timed_out;
      missed = is.missed;
      aborts = λ may. is.aborts (times_out_before k may);
    }

seeks_taken : (m : Micro) → seeks_plls (Some m) ≡ true → is_taken m ≡ true
seeks_taken (micro.Raise x) e = refl
seeks_taken (micro.Lower x) e = refl
seeks_taken (micro.Notify kind c id old new) e = refl
seeks_taken (micro.Poll x) e = absurd cc
seeks_taken (micro.Fall x) e = absurd cc
seeks_taken (micro.HoldPrepare x) e = refl
seeks_taken (micro.HoldEnable x) e = refl
seeks_taken (micro.Relink c p) e = refl
seeks_taken (micro.WriteMux c p) e = refl
seeks_taken (micro.DropEnable x) e = refl
seeks_taken (micro.DropPrepare x) e = refl
seeks_taken (micro.Visit c) e = refl
seeks_taken (micro.Register c) e = refl
seeks_taken (micro.Settle c) e = refl
seeks_taken (micro.Close c) e = refl
seeks_taken (micro.Unpower c) e = refl
seeks_taken micro.End e = refl

pub found_none-change : (f : FlightState) → FindsNone f (found_none f)
found_none-change f notifiers k m is first seeks =
    let on = gone_on-change f notifiers k m is first (seeks_taken m seeks) in
    record {
      going = on.going;
      driver = on.driver;
      call = on.call;
      front = on.front;
      count = on.count;
      steps = on.steps;
      notices = on.notices;
      left = on.left;
      polls = on.polls;
      again = refl;
      raised = on.raised;
      range = on.range;
      extra = on.extra;
      fits = on.fits;
      calls_off = on.calls_off;
      vetoed = on.vetoed;
      timed_out = on.timed_out;
      missed = on.missed;
      aborts = on.aborts;
    }
