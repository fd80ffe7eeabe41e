-- What is left to come of a change in flight, and that a step comes next.
use Rattle.std.proofs.Common.{◌≡◌, ℕ, zero, suc, ◌+◌, ◌<◌, ◌≤◌, arith, length, Bool, true, false, List, [], ◌∷◌, ◌++◌, Option, Some, None, refl, sym, ap, subst, ◌∙◌}
use Rattle.std.specs.Prelude.{sum_by, is_none, slice_get, if◌then◌else◌}
use Rattle.std.specs.Option.{option_map}
use Rattle.std.proofs.lemmas.List.Sums.{sum_by-cons}
use Rattle.clk_base.specs.declared.call.Micro.{Micro}
use Rattle.clk_base.specs.declared.clock.ClockId.{ClockId}
use Rattle.clk_model.specs.State.{Change, NotifierRow}
use Rattle.clk_model.specs.Notices.{notifiers_of}
use Rattle.clk_flight.specs.declared.front.Front.{Front}
use Rattle.clk_flight.specs.declared.front.Front.TheVariants.{Empty, Poll, Raise, Lower, Falls, Posts}
use Rattle.clk_flight.specs.Fronts.{HasSteps, is_empty, post_to}
use Rattle.clk_flight.specs.Flights.{FlightState, IsChange, first_step, comes_next, fall_or_abort}
use Rattle.clk_flight.specs.LeftOver.{step_weight, front_weight, left_over}
use Rattle.clk_flight.proofs.ChangeLaws.{full, falls_first}
use Rattle.clk_flight.proofs.LeftLaws.{some_weight}
use Rattle.core_parts.specs.Course.{PostsFit}
use Rattle.core_parts.specs.InFlight.{is_script, IsUnderWay}

-- ---- what is left to come

-- a change in flight has a step to come
pub some_left : (rows : List NotifierRow) (f : FlightState) (there : ℕ → Bool) → f.going ≡ true → IsUnderWay there f → 0 < left_over rows f
some_left rows f there going is = by f.going going where
  some : (ms : List Micro) → is_script f.call there ms ≡ true → 0 < sum_by (step_weight rows f.plls) ms
  some [] e = absurd cc
  some (m ∷ ms) e = let one = some_weight rows f.plls m in let sum = sum_by-cons (step_weight rows f.plls) m ms in omega arith

  by : (t : Bool) → t ≡ true → 0 < (if t then front_weight f.plls f.again f.front + sum_by (step_weight rows f.plls) f.left + f.extra + length f.raised else 0)
  by true e = let few = some f.left is.script in omega arith
  by false e = absurd cc

-- ---- the next step

-- what stands within a list is found
pub some_at : {A : Type 0} (xs : List A) (i : ℕ) → i < length xs → slice_get xs i ≡ None → ⊥
some_at [] i lt e = absurd (omega arith)
some_at (x ∷ xs) zero lt e = absurd cc
some_at (x ∷ xs) (suc i) lt e = some_at xs i (omega arith) e

post_comes : (c : ClockId) (old new : ℕ) (o : Option NotifierRow) → (o ≡ None → ⊥) → option_map (post_to c old new) o ≡ None → ⊥
post_comes c old new None some h = some refl
post_comes c old new (Some n) some h = absurd cc

-- where falls and notices that the change is called off stand in front, one of them comes next
falls_come : (rows : List NotifierRow) (f : FlightState) (k : Change) (told left : ℕ) → f.front ≡ Falls told left → IsChange rows f k → fall_or_abort f.script told f.raised ≡ None → ⊥
falls_come rows f k told left at is none =
    some_first k.front k.left (full rows f k is ∙ ap is_empty at) (sym (falls_first rows f k told left at is) ∙ none) where
      some_first : (xs ys : List Micro) → is_none (slice_get xs 0) ≡ false → slice_get (xs ++ ys) 0 ≡ None → ⊥
      some_first [] ys e h = cc
      some_first (x ∷ xs) ys e h = cc

-- a step comes next
pub some_comes : (rows : List NotifierRow) (f : FlightState) (there : ℕ → Bool) (k : Change) → f.going ≡ true → IsChange rows f k → PostsFit (λ c. length (notifiers_of rows c)) f.front
    → IsUnderWay there f → comes_next rows f ≡ None → ⊥
some_comes rows f there k going change posts is none =
    by f.front refl change.steps (sym (ap (λ (t : Bool). if t then first_step rows f f.front else None) going) ∙ none) where
      script : (ms : List Micro) → is_script f.call there ms ≡ true → slice_get ms 0 ≡ None → ⊥
      script [] e h = absurd cc
      script (m ∷ ms) e h = absurd cc

      by : (front : Front) → f.front ≡ front → HasSteps (length f.raised) f.front → first_step rows f f.front ≡ None → ⊥
      by Empty at some h = script f.left is.script (sym (ap (first_step rows f) at) ∙ h)
      by (Poll z polls again) at some h = let no = sym (ap (first_step rows f) at) ∙ h in absurd cc
      by (Raise z) at some h = let no = sym (ap (first_step rows f) at) ∙ h in absurd cc
      by (Lower z) at some h = let no = sym (ap (first_step rows f) at) ∙ h in absurd cc
      by (Falls told left) at some h = falls_come rows f k told left at change (sym (ap (first_step rows f) at) ∙ h)
      by (Posts c told left old new) at some h =
          let here : told + left ≤ length (notifiers_of rows c.0) = subst (λ (x : Front). PostsFit (λ c. length (notifiers_of rows c)) x) at posts in
          let steps_ : 0 < left = subst (λ (x : Front). HasSteps (length f.raised) x) at some in
          post_comes c old new (slice_get (notifiers_of rows c.0) told) (some_at (notifiers_of rows c.0) told (omega arith)) (sym (ap (first_step rows f) at) ∙ h)
