-- Each step lowers what is left over, whatever the bank answers.
use Rattle.std.proofs.Common.{◌≡◌, ℕ, suc, ◌+◌, ◌-◌, ◌*◌, ◌<◌, ◌≤◌, ◌&&◌, Bool, true, false, cond, List, [], ◌∷◌, Option, Some, None, refl, ap, ◌∙◌, arith, length, nat_eq, nat_lt}
use Rattle.std.specs.Prelude.{slice_get, sum_by, option_and_then, if◌then◌else◌}
use Rattle.std.specs.Option.{option_map}
use Rattle.std.proofs.lemmas.Bool.Decides.{nat_tests}
use Rattle.std.proofs.lemmas.List.Sums.{sum_by-cons}
use Rattle.clk_base.specs.declared.clock.ClockId.{ClockId}
use Rattle.clk_base.specs.declared.call.Micro.{Micro}
use Rattle.clk_base.specs.declared.call.Micro.TheVariants as micro
use Rattle.clk_model.specs.Lists.{without}
use Rattle.clk_model.specs.State.{NotifierRow}
use Rattle.clk_model.specs.Chain.{clock_id}
use Rattle.clk_model.specs.Notices.{notifiers_of}
use Rattle.clk_model.specs.Step.{rest_of}
use Rattle.clk_model.proofs.WeightLaws.{cut_short-le, without-le}
use Rattle.clk_flight.specs.declared.front.Front.{Front}
use Rattle.clk_flight.specs.declared.front.Front.TheVariants.{Empty, Poll, Raise, Lower, Falls, Posts}
use Rattle.clk_flight.specs.Fronts.{abort_of, called_off, post_to, aborts_behind, falls, posts, front_behind, script_behind, HasSteps}
use Rattle.clk_flight.specs.Flights.{FlightState, fall_or_abort, first_step, comes_next, own_first, own_step, seeks_plls}
use Rattle.clk_flight.specs.Moves.{others, gone_on, found_none, comes_again, raised_once, raised_in, lowered_once, timed_out_in, is_last_no, front_polled, polled_in, front_fallen, fallen, let_go_of, visited, landed}
use Rattle.clk_flight.specs.LeftOver.{step_weight, front_weight, left_over}
use Rattle.clk_flight.specs.Kept.{IsKept}
use Rattle.clk_flight.specs.Steps.{is_taken, is_fall, LeavesLess, LeavesLessAt}

-- ---- weights

falls_weigh : (plls again : ℕ) (raised : List ℕ) (told left : ℕ) → front_weight plls again (falls raised told left) ≡ left
falls_weigh plls again [] told left = one (nat_eq left 0) refl where
  one : (t : Bool) → nat_eq left 0 ≡ t → front_weight plls again (cond t Empty (Falls told left)) ≡ left
  one true e = grind (arith, nat_tests)
  one false e = refl
falls_weigh plls again (y ∷ ys) told left = refl

posts_weigh : (plls again : ℕ) (c : ClockId) (told left old new : ℕ) → front_weight plls again (posts c told left old new) ≡ left
posts_weigh plls again c told left old new = one (nat_eq left 0) refl where
  one : (t : Bool) → nat_eq left 0 ≡ t → front_weight plls again (cond t Empty (Posts c told left old new)) ≡ left
  one true e = grind (arith, nat_tests)
  one false e = refl

-- each step of a script weighs something
pub some_weight : (notifiers : List NotifierRow) (plls : ℕ) (m : Micro) → 0 < step_weight notifiers plls m
some_weight notifiers plls (micro.Notify kind c id old new) = omega arith
some_weight notifiers plls (micro.Raise x) = omega arith
some_weight notifiers plls (micro.Poll x) = omega arith
some_weight notifiers plls (micro.Fall x) = omega arith
some_weight notifiers plls (micro.HoldPrepare x) = omega arith
some_weight notifiers plls (micro.HoldEnable x) = omega arith
some_weight notifiers plls (micro.Relink c p) = omega arith
some_weight notifiers plls (micro.WriteMux c p) = omega arith
some_weight notifiers plls (micro.DropEnable x) = omega arith
some_weight notifiers plls (micro.DropPrepare x) = omega arith
some_weight notifiers plls (micro.Lower x) = omega arith
some_weight notifiers plls (micro.Visit c) = omega arith
some_weight notifiers plls (micro.Register c) = omega arith
some_weight notifiers plls (micro.Settle c) = omega arith
some_weight notifiers plls (micro.Close c) = omega arith
some_weight notifiers plls (micro.Unpower c) = omega arith
some_weight notifiers plls micro.End = omega arith

-- the first step of the script, and what it weighs
first_weight : (weigh : Micro → ℕ) (left : List Micro) (m : Micro) → slice_get left 0 ≡ Some m → sum_by weigh left ≡ weigh m + sum_by weigh (rest_of left)
first_weight weigh [] m e = absurd cc
first_weight weigh (n ∷ ms) m e = let same : n ≡ m = cc in sum_by-cons weigh n ms ∙ ap (λ (x : Micro). weigh x + sum_by weigh ms) same

-- a flight whose step comes next is going
is_going : {X : Type 0} (going : Bool) (o : Option X) (m : X) → (if going then o else None) ≡ Some m → going ≡ true
is_going true o m e = refl
is_going false o m e = absurd cc

first_going : {X : Type 0} (going : Bool) (o : Option X) (m : X) → (if going then o else None) ≡ Some m → o ≡ Some m
first_going true o m e = e
first_going false o m e = absurd cc

-- less is left over of a flight that is going
less_where_going : (going : Bool) (before after : ℕ) → going ≡ true → after < before → (if going then after else 0) < (if going then before else 0)
less_where_going true before after e less = less
less_where_going false before after e less = absurd cc

no_more_where_going : (going : Bool) (before after : ℕ) → after ≤ before → (if going then after else 0) ≤ (if going then before else 0)
no_more_where_going true before after less = less
no_more_where_going false before after less = omega arith

-- ---- a step that is neither a poll nor a fall

taken_less : (f : FlightState) (notifiers : List NotifierRow) (m : Micro) (front : Front) → HasSteps (length f.raised) front → f.again ≤ f.plls
    → first_step notifiers f front ≡ Some m → is_taken m ≡ true
    → front_weight f.plls f.again (front_behind f.raised front) + sum_by (step_weight notifiers f.plls) (script_behind front f.left)
    < front_weight f.plls f.again front + sum_by (step_weight notifiers f.plls) f.left
taken_less f notifiers m Empty has few first t =
    let sum = first_weight (step_weight notifiers f.plls) f.left m first in let some = some_weight notifiers f.plls m in omega arith
taken_less f notifiers m (Poll pll n again) has few first t = let same : micro.Poll pll ≡ m = cc in let no : false ≡ true = ap is_taken same ∙ t in absurd cc
taken_less f notifiers m (Raise x) has few first t = omega arith
taken_less f notifiers m (Lower x) has few first t = omega arith
taken_less f notifiers m (Falls told left) has few first t = each f.raised has first where
  each : (raised : List ℕ) → 0 < left + length raised → fall_or_abort f.script told raised ≡ Some m
      → front_weight f.plls f.again (aborts_behind raised told left) + sum_by (step_weight notifiers f.plls) f.left < left + sum_by (step_weight notifiers f.plls) f.left
  each [] some first_ = let w = falls_weigh f.plls f.again [] (told + 1) (left - 1) in let has_ : 0 < left + 0 = some in omega arith
  each (y ∷ ys) some first_ = let same : micro.Fall (clock_id y) ≡ m = cc in let no : false ≡ true = ap is_taken same ∙ t in absurd cc
taken_less f notifiers m (Posts c told left old new) has few first t =
    let w = posts_weigh f.plls f.again c (told + 1) (left - 1) old new in let some : 0 < left = has in omega arith

pub gone_on-less : (f : FlightState) (room : ℕ) → IsKept f room → LeavesLessAt is_taken f (gone_on f)
gone_on-less f room kept notifiers m first t =
    less_where_going f.going _ _ (is_going f.going (first_step notifiers f f.front) m first)
    (let less = taken_less f notifiers m f.front kept.steps kept.again (first_going f.going (first_step notifiers f f.front) m first) t in omega arith)

-- ---- raises and lowers

-- behind a raise or lower that finds no PLL, however often it has come
found_less : (f : FlightState) (notifiers : List NotifierRow) (front : Front) → seeks_plls (own_first f front) ≡ true → f.again ≤ f.plls
    → front_weight f.plls 0 (front_behind f.raised front) + sum_by (step_weight notifiers f.plls) (script_behind front f.left)
    < front_weight f.plls f.again front + sum_by (step_weight notifiers f.plls) f.left
found_less f notifiers Empty seeks few = each f.left seeks where
  each : (left : List Micro) → seeks_plls (slice_get left 0) ≡ true → 0 + sum_by (step_weight notifiers f.plls) (rest_of left) < 0 + sum_by (step_weight notifiers f.plls) left
  each [] e = absurd cc
  each (m ∷ ms) e = let sum = sum_by-cons (step_weight notifiers f.plls) m ms in let some = some_weight notifiers f.plls m in omega arith
found_less f notifiers (Poll pll n again) seeks few = absurd cc
found_less f notifiers (Raise x) seeks few = omega arith
found_less f notifiers (Lower x) seeks few = omega arith
found_less f notifiers (Falls told left) seeks few = absurd cc
found_less f notifiers (Posts c told left old new) seeks few = absurd cc

seeks_going : (going : Bool) (o : Option Micro) → seeks_plls (if going then o else None) ≡ true → going ≡ true
seeks_going true o e = refl
seeks_going false o e = absurd cc

pub seeks_first : (going : Bool) (o : Option Micro) → seeks_plls (if going then o else None) ≡ true → seeks_plls o ≡ true
seeks_first true o e = e
seeks_first false o e = absurd cc

pub found_none-less : (f : FlightState) (room : ℕ) → IsKept f room → seeks_plls (own_step f) ≡ true → LeavesLess f (found_none f)
found_none-less f room kept seeks notifiers =
    less_where_going f.going _ _ (seeks_going f.going (own_first f f.front) seeks)
    (let less = found_less f notifiers f.front (seeks_first f.going (own_first f f.front) seeks) kept.again in omega arith)

-- what stands in front behind a raise, and what is left of the script, weigh as much less as a poll and a fall may need
raise_less : (f : FlightState) (notifiers : List NotifierRow) (x : ClockId) (front : Front) → own_first f front ≡ Some (micro.Raise x)
    → 34 * f.plls + 1 - 34 * f.again + sum_by (step_weight notifiers f.plls) (script_behind front f.left)
    ≤ front_weight f.plls f.again front + sum_by (step_weight notifiers f.plls) f.left
raise_less f notifiers x Empty own = let sum = first_weight (step_weight notifiers f.plls) f.left (micro.Raise x) own in omega arith
raise_less f notifiers x (Poll pll n again) own = absurd cc
raise_less f notifiers x (Raise z) own = omega arith
raise_less f notifiers x (Lower z) own = absurd cc
raise_less f notifiers x (Falls told left) own = absurd cc
raise_less f notifiers x (Posts c told left old new) own = absurd cc

comes_below : (more : Bool) (again plls : ℕ) → (more && nat_lt (again + 1) plls) ≡ true → again + 1 < plls
comes_below true again plls e = grind (arith, nat_tests)
comes_below false again plls e = absurd cc

pub raised_once-less : (f : FlightState) (x y : ClockId) (more : Bool) → own_step f ≡ Some (micro.Raise x) → f.again < f.plls → LeavesLess f (raised_once f x y more)
raised_once-less f x y more own below notifiers =
    less_where_going f.going _ _ (is_going f.going (own_first f f.front) (micro.Raise x) own) (one (comes_again f more) refl) where
      less : 34 * f.plls + 1 - 34 * f.again + sum_by (step_weight notifiers f.plls) (script_behind f.front f.left)
          ≤ front_weight f.plls f.again f.front + sum_by (step_weight notifiers f.plls) f.left
      less = raise_less f notifiers x f.front (first_going f.going (own_first f f.front) (micro.Raise x) own)

      one : (t : Bool) → comes_again f more ≡ t
          → front_weight f.plls (if t then f.again + 1 else 0) (Poll y 32 (if t then Some x else None)) + sum_by (step_weight notifiers f.plls) (script_behind f.front f.left) + f.extra + suc (length f.raised)
          < front_weight f.plls f.again f.front + sum_by (step_weight notifiers f.plls) f.left + f.extra + length f.raised
      one true e = let few = comes_below more f.again f.plls e in let l = less in omega arith
      one false e = let l = less in omega arith

pub raised_in-less : (f : FlightState) (room : ℕ) (x y : ClockId) (more : Bool) → IsKept f room → own_step f ≡ Some (micro.Raise x) → LeavesLess f (raised_in f x y more)
raised_in-less f room x y more kept own = one (nat_lt f.again f.plls) refl where
  one : (t : Bool) → nat_lt f.again f.plls ≡ t → LeavesLess f (if t then raised_once f x y more else found_none f)
  one true e = raised_once-less f x y more own (grind (arith, nat_tests))
  one false e = found_none-less f room kept (ap seeks_plls own)

lower_less : (f : FlightState) (notifiers : List NotifierRow) (x : ClockId) (front : Front) → own_first f front ≡ Some (micro.Lower x)
    → f.plls + 1 - f.again + sum_by (step_weight notifiers f.plls) (script_behind front f.left)
    ≤ front_weight f.plls f.again front + sum_by (step_weight notifiers f.plls) f.left
lower_less f notifiers x Empty own = let sum = first_weight (step_weight notifiers f.plls) f.left (micro.Lower x) own in omega arith
lower_less f notifiers x (Poll pll n again) own = absurd cc
lower_less f notifiers x (Raise z) own = absurd cc
lower_less f notifiers x (Lower z) own = omega arith
lower_less f notifiers x (Falls told left) own = absurd cc
lower_less f notifiers x (Posts c told left old new) own = absurd cc

pub lowered_once-less : (f : FlightState) (room : ℕ) (x : ClockId) (more : Bool) → IsKept f room → own_step f ≡ Some (micro.Lower x) → LeavesLess f (lowered_once f x more)
lowered_once-less f room x more kept own notifiers =
    less_where_going f.going _ _ (is_going f.going (own_first f f.front) (micro.Lower x) own) (one (comes_again f more) refl) where
      first : own_first f f.front ≡ Some (micro.Lower x)
      first = first_going f.going (own_first f f.front) (micro.Lower x) own

      one : (t : Bool) → comes_again f more ≡ t
          → front_weight f.plls (if t then f.again + 1 else 0) (if t then Lower x else front_behind f.raised f.front) + sum_by (step_weight notifiers f.plls) (script_behind f.front f.left) + f.extra + length f.raised
          < front_weight f.plls f.again f.front + sum_by (step_weight notifiers f.plls) f.left + f.extra + length f.raised
      one true e = let few = comes_below more f.again f.plls e in let l = lower_less f notifiers x f.front first in omega arith
      one false e = let l = found_less f notifiers f.front (ap seeks_plls first) kept.again in omega arith

-- ---- polls

poll_less : (f : FlightState) (notifiers : List NotifierRow) (answer : Bool) (y : ClockId) (front : Front) → HasSteps (length f.raised) front
    → own_first f front ≡ Some (micro.Poll y) → is_last_no front answer ≡ false
    → front_weight f.plls f.again (front_polled front answer) + sum_by (step_weight notifiers f.plls) (script_behind front f.left)
    < front_weight f.plls f.again front + sum_by (step_weight notifiers f.plls) f.left
poll_less f notifiers answer y Empty has own e =
    let sum = first_weight (step_weight notifiers f.plls) f.left (micro.Poll y) own in omega arith
poll_less f notifiers true y (Poll pll n None) has own e = let some : 0 < n = has in omega arith
poll_less f notifiers true y (Poll pll n (Some x)) has own e = let some : 0 < n = has in omega arith
poll_less f notifiers false y (Poll pll n again) has own e = let some : 0 < n = has in omega arith
poll_less f notifiers answer y (Raise z) has own e = absurd cc
poll_less f notifiers answer y (Lower z) has own e = absurd cc
poll_less f notifiers answer y (Falls told left) has own e = absurd cc
poll_less f notifiers answer y (Posts c told left old new) has own e = absurd cc

last_weighs : (plls again raised : ℕ) (front : Front) (answer : Bool) → HasSteps raised front → is_last_no front answer ≡ true → 0 < front_weight plls again front
last_weighs plls again raised (Poll pll n behind) answer has e = let some : 0 < n = has in omega arith
last_weighs plls again raised Empty answer has e = absurd cc
last_weighs plls again raised (Raise z) answer has e = absurd cc
last_weighs plls again raised (Lower z) answer has e = absurd cc
last_weighs plls again raised (Falls told left) answer has e = absurd cc
last_weighs plls again raised (Posts c told left old new) answer has e = absurd cc

pub polled-less : (f : FlightState) (room : ℕ) (answer : Bool) (y : ClockId) → IsKept f room → own_step f ≡ Some (micro.Poll y) → LeavesLess f (polled_in f answer)
polled-less f room answer y kept own notifiers = one (is_last_no f.front answer) refl where
  going_ : f.going ≡ true
  going_ = is_going f.going (own_first f f.front) (micro.Poll y) own

  one : (t : Bool) → is_last_no f.front answer ≡ t
      → left_over notifiers (if t then timed_out_in f else record f { front = front_polled f.front answer; left = script_behind f.front f.left }) < left_over notifiers f
  one true e =
      less_where_going f.going _ _ going_
      (let some = last_weighs f.plls f.again (length f.raised) f.front answer kept.steps e in
      let w = falls_weigh f.plls 0 f.raised 0 f.extra in
      let cut = cut_short-le (step_weight notifiers f.plls) f.call f.left in
      omega arith)
  one false e =
      less_where_going f.going _ _ going_
      (let less = poll_less f notifiers answer y f.front kept.steps (first_going f.going (own_first f f.front) (micro.Poll y) own) e in omega arith)

-- ---- falls, holds, visits and the end

fallen_weighs : (plls again : ℕ) (ys : List ℕ) (front : Front) → front_weight plls again (front_fallen ys front) ≡ front_weight plls again front
fallen_weighs plls again ys Empty = refl
fallen_weighs plls again ys (Poll pll n behind) = refl
fallen_weighs plls again ys (Raise x) = refl
fallen_weighs plls again ys (Lower x) = refl
fallen_weighs plls again ys (Falls told left) = falls_weigh plls again ys told left
fallen_weighs plls again ys (Posts c told left old new) = refl

others-le : (ys : List ℕ) → length (others ys) ≤ length ys
others-le [] = omega arith
others-le (y ∷ ys) = omega arith

fall_less : (f : FlightState) (notifiers : List NotifierRow) (m : Micro) (front : Front) → first_step notifiers f front ≡ Some m → is_fall m ≡ true
    → sum_by (step_weight notifiers f.plls) (script_behind front f.left) + length (others f.raised) < sum_by (step_weight notifiers f.plls) f.left + length f.raised
fall_less f notifiers m Empty first t =
    let sum = first_weight (step_weight notifiers f.plls) f.left m first in
    let some = some_weight notifiers f.plls m in
    let fewer = others-le f.raised in
    omega arith
fall_less f notifiers m (Poll pll n again) first t = let same : micro.Poll pll ≡ m = cc in let no : false ≡ true = ap is_fall same ∙ t in absurd cc
fall_less f notifiers m (Raise x) first t = let same : micro.Raise x ≡ m = cc in let no : false ≡ true = ap is_fall same ∙ t in absurd cc
fall_less f notifiers m (Lower x) first t = let same : micro.Lower x ≡ m = cc in let no : false ≡ true = ap is_fall same ∙ t in absurd cc
fall_less f notifiers m (Falls told left) first t = each f.raised first where
  aborted : (o : Option Micro) → option_and_then abort_of o ≡ Some m → ⊥
  aborted None e = cc
  aborted (Some n) e = never n e where
    never : (w : Micro) → abort_of w ≡ Some m → ⊥
    never (micro.Notify kind c id old new) e = let same : called_off (micro.Notify kind c id old new) ≡ m = cc in let no : false ≡ true = ap is_fall same ∙ t in cc
    never w e = cc

  each : (raised : List ℕ) → fall_or_abort f.script told raised ≡ Some m
      → sum_by (step_weight notifiers f.plls) f.left + length (others raised) < sum_by (step_weight notifiers f.plls) f.left + length raised
  each [] e = absurd (aborted (slice_get f.script told) e)
  each (y ∷ ys) e = omega arith
fall_less f notifiers m (Posts c told left old new) first t = absurd (each (slice_get (notifiers_of notifiers c.0) told) first) where
  each : (o : Option NotifierRow) → option_map (post_to c old new) o ≡ Some m → ⊥
  each None e = cc
  each (Some n) e = let same : post_to c old new n ≡ m = cc in let no : false ≡ true = ap is_fall same ∙ t in cc

pub fallen-less : (f : FlightState) → LeavesLessAt is_fall f (fallen f)
fallen-less f notifiers m first t =
    less_where_going f.going _ _ (is_going f.going (first_step notifiers f f.front) m first)
    (let less = fall_less f notifiers m f.front (first_going f.going (first_step notifiers f f.front) m first) t in
    let w = fallen_weighs f.plls f.again (others f.raised) f.front in
    omega arith)

pub let_go-less : (f : FlightState) (y : ClockId) (notifiers : List NotifierRow) → left_over notifiers (let_go_of f y) ≤ left_over notifiers f
let_go-less f y notifiers =
    no_more_where_going f.going _ _
    (let w = fallen_weighs f.plls f.again (without (y.0 ∷ []) f.raised) f.front in let fewer = without-le (y.0 ∷ []) f.raised in omega arith)

visit_less : (f : FlightState) (notifiers : List NotifierRow) (c : ClockId) (told : ℕ) (front : Front) → own_first f front ≡ Some (micro.Visit c) → told ≤ length (notifiers_of notifiers c.0)
    → told + sum_by (step_weight notifiers f.plls) (script_behind front f.left) < front_weight f.plls f.again front + sum_by (step_weight notifiers f.plls) f.left
visit_less f notifiers c told Empty own few = let sum = first_weight (step_weight notifiers f.plls) f.left (micro.Visit c) own in omega arith
visit_less f notifiers c told (Poll pll n again) own few = absurd cc
visit_less f notifiers c told (Raise z) own few = absurd cc
visit_less f notifiers c told (Lower z) own few = absurd cc
visit_less f notifiers c told (Falls n left) own few = absurd cc
visit_less f notifiers c told (Posts d n left old new) own few = absurd cc

pub visited-less : (f : FlightState) (c : ClockId) (told old new : ℕ) (notifiers : List NotifierRow) → own_step f ≡ Some (micro.Visit c) → told ≤ length (notifiers_of notifiers c.0)
    → left_over notifiers (visited f c told old new) < left_over notifiers f
visited-less f c told old new notifiers own few =
    less_where_going f.going _ _ (is_going f.going (own_first f f.front) (micro.Visit c) own)
    (let less = visit_less f notifiers c told f.front (first_going f.going (own_first f f.front) (micro.Visit c) own) few in
    let w = posts_weigh f.plls f.again c 0 told old new in
    omega arith)

-- the end leaves nothing
some_left : (f : FlightState) (notifiers : List NotifierRow) (m : Micro) (front : Front) → HasSteps (length f.raised) front → f.again ≤ f.plls → first_step notifiers f front ≡ Some m
    → 0 < front_weight f.plls f.again front + sum_by (step_weight notifiers f.plls) f.left + length f.raised
some_left f notifiers m Empty has few first =
    let sum = first_weight (step_weight notifiers f.plls) f.left m first in let some = some_weight notifiers f.plls m in omega arith
some_left f notifiers m (Poll pll n again) has few first = let some : 0 < n = has in omega arith
some_left f notifiers m (Raise x) has few first = omega arith
some_left f notifiers m (Lower x) has few first = omega arith
some_left f notifiers m (Falls told left) has few first = let some : 0 < left + length f.raised = has in omega arith
some_left f notifiers m (Posts c told left old new) has few first = let some : 0 < left = has in omega arith

pub landed-less : (f : FlightState) (room : ℕ) (notifiers : List NotifierRow) (m : Micro) → IsKept f room → comes_next notifiers f ≡ Some m
    → left_over notifiers (landed f) < left_over notifiers f
landed-less f room notifiers m kept first = one f.going (is_going f.going (first_step notifiers f f.front) m first) where
  some : 0 < front_weight f.plls f.again f.front + sum_by (step_weight notifiers f.plls) f.left + length f.raised
  some = some_left f notifiers m f.front kept.steps kept.again (first_going f.going (first_step notifiers f f.front) m first)

  one : (going : Bool) → going ≡ true → 0 < (if going then front_weight f.plls f.again f.front + sum_by (step_weight notifiers f.plls) f.left + f.extra + length f.raised else 0)
  one true e = let h = some in omega arith
  one false e = absurd cc
