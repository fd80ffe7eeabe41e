-- The flight stays the change of the definitions through a raise, a lower, a poll, a fall and a visit.
use Rattle.std.proofs.Common.{◌≡◌, ℕ, ◌+◌, ◌<◌, ◌≤◌, ◌||◌, Bool, true, false, List, [], ◌∷◌, ◌++◌, Option, Some, None, refl, sym, ap, ◌∙◌, subst, arith, length, nat_lt, nat_le}
use Rattle.std.specs.Prelude.{slice_get, reverse, if◌then◌else◌}
use Rattle.std.specs.List.{list_any}
use Rattle.std.specs.Option.{option_map_or}
use Rattle.std.proofs.lemmas.Bool.Decides.{nat_tests}
use Rattle.std.proofs.lemmas.List.{length-reverse}
use Rattle.clk_base.specs.declared.clock.ClockId.{ClockId}
use Rattle.clk_base.specs.declared.call.Micro.{Micro}
use Rattle.clk_base.specs.declared.call.Micro.TheVariants as micro
use Rattle.clk_model.specs.State.{NotifierRow, Change}
use Rattle.clk_model.specs.Chain.{clock_id}
use Rattle.clk_model.specs.Script.{plls}
use Rattle.clk_model.specs.Step.{on, todo, taken, rest_of, left_behind, to_raise, raise_one, to_lower, lower_one}
use Rattle.clk_model.specs.Laws.Paced.{may_time_out}
use Rattle.clk_flight.specs.declared.front.Front.{Front}
use Rattle.clk_flight.specs.declared.front.Front.TheVariants.{Empty, Poll, Raise, Lower, Falls, Posts}
use Rattle.clk_flight.specs.Fronts.{polls_of, front_steps, front_behind, script_behind}
use Rattle.clk_flight.specs.Flights.{FlightState, IsChange, Flies, own_first, own_step, seeks_plls}
use Rattle.clk_flight.specs.Moves.{comes_again, raised_once, raised_in, found_none, lowered_once}
use Rattle.clk_flight.specs.Steps.{Raises, LowersOne}
use Rattle.clk_flight.proofs.KeptLaws.{going_step}
use Rattle.clk_flight.proofs.ChangeLaws.{left_taken, times_out_before, gone_on-change}

-- ---- a raise

-- behind a raise or a lower nothing stands in front
pub alone : (f : FlightState) (notifiers : List NotifierRow) (script : List Micro) (raised : List ℕ) (front : Front) → seeks_plls (own_first f front) ≡ true
    → rest_of (front_steps notifiers script raised front) ≡ []
alone f notifiers script raised Empty seeks = refl
alone f notifiers script raised (Poll pll polls again) seeks = absurd cc
alone f notifiers script raised (Raise x) seeks = refl
alone f notifiers script raised (Lower x) seeks = refl
alone f notifiers script raised (Falls told left) seeks = absurd cc
alone f notifiers script raised (Posts c told left old new) seeks = absurd cc

pub none_behind : (f : FlightState) (notifiers : List NotifierRow) (k : Change) (m : Micro) → own_step f ≡ Some m → seeks_plls (Some m) ≡ true → IsChange notifiers f k
    → rest_of k.front ≡ []
none_behind f notifiers k m own seeks is =
    ap rest_of is.front
    ∙ alone f notifiers f.script f.raised f.front (ap seeks_plls (going_step f.going (own_first f f.front) m own) ∙ seeks)

-- and there is no poll
polls_alone : (f : FlightState) (front : Front) → seeks_plls (own_first f front) ≡ true → polls_of front ≡ 0
polls_alone f Empty seeks = refl
polls_alone f (Poll pll polls again) seeks = absurd cc
polls_alone f (Raise x) seeks = refl
polls_alone f (Lower x) seeks = refl
polls_alone f (Falls told left) seeks = refl
polls_alone f (Posts c told left old new) seeks = refl

some_there : (xs : List ℕ) (y : ℕ) → slice_get xs 0 ≡ Some y → 0 < length xs
some_there [] y e = absurd cc
some_there (x ∷ xs) y e = omega arith

-- the change behind a raise, where more may come again as often as the flight lets it
raised_change : (f : FlightState) (notifiers : List NotifierRow) (k : Change) (x y : ClockId) (more comes : Bool) → own_step f ≡ Some (micro.Raise x)
    → slice_get (todo k) 0 ≡ Some (micro.Raise x) → IsChange notifiers f k → comes_again f more ≡ comes
    → IsChange notifiers (raised_once f x y more) (record (taken k) {
      raised = y.0 ∷ k.raised;
      polls = 32;
      again = if comes then k.again + 1 else 0;
      front = micro.Poll (clock_id y.0) ∷ (if comes then micro.Raise (clock_id x.0) ∷ [] else []) ++ rest_of k.front;
    })
raised_change f notifiers k x y more comes own first is same =
    subst (λ (t : Bool). IsChange notifiers (record f {
      raised = y.0 ∷ f.raised;
      again = if t then f.again + 1 else 0;
      front = Poll y 32 (if t then Some x else None);
      left = script_behind f.front f.left;
    }) (record (taken k) {
      raised = y.0 ∷ k.raised;
      polls = 32;
      again = if comes then k.again + 1 else 0;
      front = micro.Poll (clock_id y.0) ∷ (if comes then micro.Raise (clock_id x.0) ∷ [] else []) ++ rest_of k.front;
    })) (sym same) (each comes) where
      none : rest_of k.front ≡ []
      none = none_behind f notifiers k (micro.Raise x) own refl is

      on_ : IsChange notifiers (record f { front = front_behind f.raised f.front; left = script_behind f.front f.left }) (taken k)
      on_ = gone_on-change f notifiers k (micro.Raise x) is first refl

      may_before : list_any may_time_out (todo k) ≡ true
      may_before = may (todo k) (micro.Raise x) first refl where
        may : (ms : List Micro) (m : Micro) → slice_get ms 0 ≡ Some m → may_time_out m ≡ true → list_any may_time_out ms ≡ true
        may [] m e t = absurd cc
        may (n ∷ ms) m e t = let same_step : n ≡ m = cc in ap (λ (b : Bool). b || list_any may_time_out ms) (ap may_time_out same_step ∙ t)

      each : (t : Bool) → IsChange notifiers (record f {
        raised = y.0 ∷ f.raised;
        again = if t then f.again + 1 else 0;
        front = Poll y 32 (if t then Some x else None);
        left = script_behind f.front f.left;
      }) (record (taken k) {
        raised = y.0 ∷ k.raised;
        polls = 32;
        again = if t then k.again + 1 else 0;
        front = micro.Poll (clock_id y.0) ∷ (if t then micro.Raise (clock_id x.0) ∷ [] else []) ++ rest_of k.front;
      })
      each true = record {
        going = is.going;
        driver = is.driver;
        call = is.call;
        front = ap (λ (ms : List Micro). micro.Poll y ∷ micro.Raise x ∷ ms) none;
        count = ap (λ (ms : List Micro). length (micro.Poll y ∷ micro.Raise x ∷ ms)) none;
        steps = omega arith;
        notices = refl;
        left = left_taken notifiers f k is;
        polls = refl;
        again = ap (λ (n : ℕ). n + 1) is.again;
        raised = ap (λ ys. y.0 ∷ ys) is.raised;
        range = is.range;
        extra = is.extra;
        fits = is.fits;
        calls_off = is.calls_off;
        vetoed = is.vetoed;
        timed_out = is.timed_out;
        missed = is.missed;
        aborts = λ e. is.aborts may_before;
      }
      each false = record {
        going = is.going;
        driver = is.driver;
        call = is.call;
        front = ap (λ (ms : List Micro). micro.Poll y ∷ ms) none;
        count = ap (λ (ms : List Micro). length (micro.Poll y ∷ ms)) none;
        steps = omega arith;
        notices = refl;
        left = left_taken notifiers f k is;
        polls = refl;
        again = refl;
        raised = ap (λ ys. y.0 ∷ ys) is.raised;
        range = is.range;
        extra = is.extra;
        fits = is.fits;
        calls_off = is.calls_off;
        vetoed = is.vetoed;
        timed_out = is.timed_out;
        missed = is.missed;
        aborts = λ e. is.aborts may_before;
      }

-- a raise or lower that still has so many PLLs to go may come again where there is more than one
pub again_where_more : (f : FlightState) (more : Bool) (again n : ℕ) → again ≡ f.again → again + n ≤ f.plls → more ≡ nat_le 2 n → comes_again f more ≡ more
again_where_more f true again n same few is = grind (arith, nat_tests)
again_where_more f false again n same few is = refl

pub raised-change : (f : FlightState) (x y : ClockId) (more : Bool) → own_step f ≡ Some (micro.Raise x) → Raises x y more f (raised_in f x y more)
raised-change f x y more own s k is lines first still highest is_more =
    subst (λ (o : Option ℕ). Flies s.notifiers (raised_in f x y more) (option_map_or (raise_one s (taken k) x.0) o (on s (record (taken k) { again = 0 }))).change) (sym highest)
    (subst (λ (t : Bool). IsChange s.notifiers (if t then raised_once f x y more else found_none f) (record (taken k) {
      raised = y.0 ∷ k.raised;
      polls = 32;
      again = if nat_le 2 (length (to_raise s (taken k) x.0)) then k.again + 1 else 0;
      front = micro.Poll (clock_id y.0) ∷ (if nat_le 2 (length (to_raise s (taken k) x.0)) then micro.Raise (clock_id x.0) ∷ [] else []) ++ rest_of k.front;
    })) (sym below)
    (subst (λ (t : Bool). IsChange s.notifiers (raised_once f x y more) (record (taken k) {
      raised = y.0 ∷ k.raised;
      polls = 32;
      again = if t then k.again + 1 else 0;
      front = micro.Poll (clock_id y.0) ∷ (if t then micro.Raise (clock_id x.0) ∷ [] else []) ++ rest_of k.front;
    })) is_more
    (raised_change f s.notifiers k x y more more own first is (again_where_more f more k.again (length (to_raise s (taken k) x.0)) is.again few is_more)))) where
      few : k.again + length (to_raise s (taken k) x.0) ≤ f.plls
      few = let l : f.plls ≡ plls s.defs = lines in let h : k.again + length (to_raise s (taken k) x.0) ≤ plls s.defs = still in omega arith

      some : 0 < length (to_raise s (taken k) x.0)
      some = let there = some_there (reverse (to_raise s (taken k) x.0)) y.0 highest in let long = length-reverse (to_raise s (taken k) x.0) in omega arith

      below : nat_lt f.again f.plls ≡ true
      below = let h = few in let g = some in let a = is.again in grind (arith, nat_tests)

-- ---- a lower

pub lowered-change : (f : FlightState) (x : ClockId) (more : Bool) → own_step f ≡ Some (micro.Lower x) → LowersOne x more f (lowered_once f x more)
lowered-change f x more own s k y is lines first still lowest is_more =
    subst (λ (o : Option ℕ). Flies s.notifiers (lowered_once f x more) (option_map_or (lower_one s (taken k) x.0) o (on s (record (taken k) { again = 0 }))).change) (sym lowest)
    (subst (λ (t : Bool). IsChange s.notifiers (lowered_once f x more) (record (taken k) {
      again = if t then k.again + 1 else 0;
      front = (if t then micro.Lower (clock_id x.0) ∷ [] else []) ++ rest_of k.front;
    })) is_more
    (subst (λ (t : Bool). IsChange s.notifiers (record f {
      again = if t then f.again + 1 else 0;
      front = if t then Lower x else front_behind f.raised f.front;
      left = script_behind f.front f.left;
    }) (record (taken k) {
      again = if more then k.again + 1 else 0;
      front = (if more then micro.Lower (clock_id x.0) ∷ [] else []) ++ rest_of k.front;
    })) (sym (again_where_more f more k.again (length (to_lower s x.0)) is.again few is_more)) (each more))) where
      few : k.again + length (to_lower s x.0) ≤ f.plls
      few = let l : f.plls ≡ plls s.defs = lines in let h : k.again + length (to_lower s x.0) ≤ plls s.defs = still in omega arith

      none : rest_of k.front ≡ []
      none = none_behind f s.notifiers k (micro.Lower x) own refl is

      on_ : IsChange s.notifiers (record f { front = front_behind f.raised f.front; left = script_behind f.front f.left }) (taken k)
      on_ = gone_on-change f s.notifiers k (micro.Lower x) is first refl

      no_time : list_any may_time_out (micro.Lower x ∷ left_behind k.front k.left) ≡ true → list_any may_time_out (todo (taken k)) ≡ true
      no_time e = ap (λ (ms : List Micro). list_any may_time_out (ms ++ left_behind k.front k.left)) none ∙ e

      each : (t : Bool) → IsChange s.notifiers (record f {
        again = if t then f.again + 1 else 0;
        front = if t then Lower x else front_behind f.raised f.front;
        left = script_behind f.front f.left;
      }) (record (taken k) {
        again = if t then k.again + 1 else 0;
        front = (if t then micro.Lower (clock_id x.0) ∷ [] else []) ++ rest_of k.front;
      })
      each true = record {
        going = is.going;
        driver = is.driver;
        call = is.call;
        front = ap (λ (ms : List Micro). micro.Lower x ∷ ms) none;
        count = ap (λ (ms : List Micro). length (micro.Lower x ∷ ms)) none;
        steps = tt;
        notices = refl;
        left = left_taken s.notifiers f k is;
        polls = is.polls ∙ polls_alone f f.front (ap seeks_plls (going_step f.going (own_first f f.front) (micro.Lower x) own));
        again = ap (λ (n : ℕ). n + 1) is.again;
        raised = is.raised;
        range = is.range;
        extra = is.extra;
        fits = is.fits;
        calls_off = is.calls_off;
        vetoed = is.vetoed;
        timed_out = is.timed_out;
        missed = is.missed;
        aborts = λ e. is.aborts (times_out_before k (no_time (sym (ap (λ (ms : List Micro). list_any may_time_out ((micro.Lower x ∷ ms) ++ left_behind k.front k.left)) none) ∙ e)));
      }
      each false = record {
        going = on_.going;
        driver = on_.driver;
        call = on_.call;
        front = on_.front;
        count = on_.count;
        steps = on_.steps;
        notices = on_.notices;
        left = on_.left;
        polls = on_.polls;
        again = refl;
        raised = on_.raised;
        range = on_.range;
        extra = on_.extra;
        fits = on_.fits;
        calls_off = on_.calls_off;
        vetoed = on_.vetoed;
        timed_out = on_.timed_out;
        missed = on_.missed;
        aborts = on_.aborts;
      }
