-- What each step keeps of a flight.
use Rattle.std.proofs.Common.{◌≡◌, ℕ, ◌+◌, ◌-◌, ◌<◌, ◌≤◌, ◌^◌, ◌&&◌, Bool, true, false, cond, List, [], ◌∷◌, Option, Some, None, refl, sym, ap, subst, arith, length, nat_eq}
use Rattle.std.specs.Prelude.{slice_get, is_none, if◌then◌else◌}
use Rattle.std.proofs.lemmas.Bool.Decides.{nat_tests}
use Rattle.clk_base.specs.declared.clock.ClockId.{ClockId}
use Rattle.clk_base.specs.declared.call.Micro.{Micro}
use Rattle.clk_model.specs.Lists.{without}
use Rattle.clk_model.specs.Step.{cut_short}
use Rattle.clk_model.proofs.WeightLaws.{cut_short-le, without-le}
use Rattle.clk_flight.specs.declared.front.Front.{Front}
use Rattle.clk_flight.specs.declared.front.Front.TheVariants.{Empty, Poll, Raise, Lower, Falls, Posts}
use Rattle.clk_flight.specs.Fronts.{falls, posts, aborts_behind, front_behind, HasSteps, IsCounted}
use Rattle.clk_flight.specs.Flights.{FlightState}
use Rattle.clk_flight.specs.Moves.{timed_out_in, front_fallen, with_raised}
use Rattle.clk_flight.specs.Kept.{room_for, front_room, IsKept}

-- ---- what stands in front

falls_room : (plls again : ℕ) (raised : List ℕ) (told left : ℕ) → front_room plls again (falls raised told left) ≡ 0
falls_room plls again raised told left = one (is_none (slice_get raised 0) && nat_eq left 0) where
  one : (t : Bool) → front_room plls again (cond t Empty (Falls told left)) ≡ 0
  one true = refl
  one false = refl

pub falls_steps : (raised : List ℕ) (told left : ℕ) → HasSteps (length raised) (falls raised told left)
falls_steps [] told left = one (nat_eq left 0) refl where
  one : (t : Bool) → nat_eq left 0 ≡ t → HasSteps 0 (cond t Empty (Falls told left))
  one true is = tt
  one false is = grind (arith, nat_tests)
falls_steps (y ∷ ys) told left = omega arith

pub posts_steps : (raised : ℕ) (c : ClockId) (told left old new : ℕ) → HasSteps raised (posts c told left old new)
posts_steps raised c told left old new = one (nat_eq left 0) refl where
  one : (t : Bool) → nat_eq left 0 ≡ t → HasSteps raised (cond t Empty (Posts c told left old new))
  one true is = tt
  one false is = grind (arith, nat_tests)

falls_counted : (raised : List ℕ) (told left : ℕ) → told + left < 2 ^ 64 → IsCounted (falls raised told left)
falls_counted raised told left fits = one (is_none (slice_get raised 0) && nat_eq left 0) where
  one : (t : Bool) → IsCounted (cond t Empty (Falls told left))
  one true = tt
  one false = fits

aborts_steps : (raised : List ℕ) (told left : ℕ) → HasSteps (length raised) (Falls told left) → HasSteps (length raised) (aborts_behind raised told left)
aborts_steps [] told left has = falls_steps [] (told + 1) (left - 1)
aborts_steps (y ∷ ys) told left has = has

pub behind_steps : (raised : List ℕ) (front : Front) → HasSteps (length raised) front → HasSteps (length raised) (front_behind raised front)
behind_steps raised Empty has = tt
behind_steps raised (Poll pll polls None) has = tt
behind_steps raised (Poll pll polls (Some x)) has = tt
behind_steps raised (Raise x) has = tt
behind_steps raised (Lower x) has = tt
behind_steps raised (Falls told left) has = aborts_steps raised told left has
behind_steps raised (Posts c told left old new) has = posts_steps (length raised) c (told + 1) (left - 1) old new

-- ---- each step

pub going_step : (going : Bool) (first : Option Micro) (m : Micro) → (if going then first else None) ≡ Some m → first ≡ Some m
going_step true first m is = is
going_step false first m is = absurd cc

pub timed_out-keeps : (f : FlightState) (room : ℕ) → f.extra < 2 ^ 64 → IsKept f room → IsKept (timed_out_in f) room
timed_out-keeps f room fits kept = record {
  steps = falls_steps f.raised 0 f.extra;
  counted = falls_counted f.raised 0 f.extra (omega arith);
  again = omega arith;
  room =
      let none = falls_room f.plls 0 f.raised 0 f.extra in
      let script = cut_short-le (room_for f.plls) f.call f.left in
      let had = kept.room in
      omega arith;
}

pub with_raised-keeps : (f : FlightState) (ys : List ℕ) (room : ℕ) → length ys ≤ length f.raised → IsKept f room → IsKept (with_raised f ys) room
with_raised-keeps f ys room fewer kept = record {
  steps = steps f.front kept.steps;
  counted = counted f.front kept.counted;
  again = kept.again;
  room = let had = kept.room in let same = same_room f.front in omega arith;
} where
  steps : (front : Front) → HasSteps (length f.raised) front → HasSteps (length ys) (front_fallen ys front)
  steps Empty has = tt
  steps (Poll pll polls again) has = has
  steps (Raise x) has = tt
  steps (Lower x) has = tt
  steps (Falls told left) has = falls_steps ys told left
  steps (Posts c told left old new) has = has

  counted : (front : Front) → IsCounted front → IsCounted (front_fallen ys front)
  counted Empty fits = tt
  counted (Poll pll polls again) fits = tt
  counted (Raise x) fits = tt
  counted (Lower x) fits = tt
  counted (Falls told left) fits = falls_counted ys told left fits
  counted (Posts c told left old new) fits = fits

  same_room : (front : Front) → front_room f.plls f.again (front_fallen ys front) ≡ front_room f.plls f.again front
  same_room Empty = refl
  same_room (Poll pll polls again) = refl
  same_room (Raise x) = refl
  same_room (Lower x) = refl
  same_room (Falls told left) = falls_room f.plls f.again ys told left
  same_room (Posts c told left old new) = refl

-- ---- with the fields as they were found

pub let_go-keeps : (f : FlightState) (y : ℕ) (ys : List ℕ) (front : Front) (room after : ℕ) → after ≡ room → ys ≡ without (y ∷ []) f.raised
    → front ≡ front_fallen ys f.front → IsKept f room → IsKept (record f { raised = ys; front = front }) after
let_go-keeps f y ys front room after same are is kept =
    subst (λ (r : ℕ). IsKept (record f { raised = ys; front = front }) r) (sym same)
    (subst (λ (fr : Front). IsKept (record f { raised = ys; front = fr }) room) (sym is)
    (with_raised-keeps f ys room (let fewer = without-le (y ∷ []) f.raised in let long = ap length are in omega arith) kept))

pub timeout-keeps : (f : FlightState) (script left : List Micro) (front : Front) (missed : Option ℕ) (room : ℕ) → f.extra < 2 ^ 64 → front ≡ falls f.raised 0 f.extra
    → left ≡ cut_short f.call f.left → IsKept f room
    → IsKept (record f { timed_out = true; missed = missed; again = 0; extra = 0; front = front; script = script; left = left }) room
timeout-keeps f script left front missed room fits is cut kept =
    let k = timed_out-keeps f room fits kept in
    let front_is : front ≡ falls f.raised 0 f.extra = is in
    let left_is : left ≡ cut_short f.call f.left = cut in
    subst (λ (fr : Front). IsKept (record f { timed_out = true; missed = missed; again = 0; extra = 0; front = fr; script = script; left = left }) room) (sym is)
    (subst (λ (ms : List Micro). IsKept (record f { timed_out = true; missed = missed; again = 0; extra = 0; front = falls f.raised 0 f.extra; script = script; left = ms }) room) (sym cut)
    (record { steps = k.steps; counted = k.counted; again = k.again; room = k.room }))
