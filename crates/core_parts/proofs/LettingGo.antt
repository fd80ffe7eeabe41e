-- PLLs that count as raised no more, one after the other.
use Rattle.std.proofs.Common.{◌≡◌, ℕ, ◌≤◌, ◌||◌, Bool, true, false, not, cond, List, [], ◌∷◌, refl, sym, ap, subst, ◌∙◌, arith, nat_eq}
use Rattle.clk_base.specs.declared.clock.ClockId.{ClockId}
use Rattle.clk_model.specs.Lists.{is_in, without}
use Rattle.clk_model.specs.State.{NotifierRow}
use Rattle.clk_flight.specs.declared.front.Front.{Front}
use Rattle.clk_flight.specs.declared.front.Front.TheVariants.{Empty}
use Rattle.clk_flight.specs.Flights.{FlightState, IsChange}
use Rattle.clk_flight.specs.LeftOver.{left_over}
use Rattle.clk_flight.specs.Moves.{front_fallen, let_go_of}
use Rattle.clk_flight.specs.Steps.{LetsGo}
use Rattle.clk_flight.proofs.Listing.{without-none}
use Rattle.core_parts.specs.Letting.{LetsGoAll}

without_more : (y : ℕ) (ys xs : List ℕ) → without ys (without (y ∷ []) xs) ≡ without (y ∷ ys) xs
without_more y ys [] = refl
without_more y ys (x ∷ xs) = by (nat_eq y x) (without_more y ys xs) where
  by : (t : Bool) → without ys (without (y ∷ []) xs) ≡ without (y ∷ ys) xs
      → without ys (cond {A = List ℕ} (not (t || false)) (x ∷ without (y ∷ []) xs) (without (y ∷ []) xs)) ≡ cond {A = List ℕ} (not (t || is_in x ys)) (x ∷ without (y ∷ ys) xs) (without (y ∷ ys) xs)
  by true rest = rest
  by false rest = ap (λ (zs : List ℕ). cond {A = List ℕ} (not (is_in x ys)) (x ∷ zs) zs) rest

pub lets_go_none : (f : FlightState) → LetsGoAll [] f f
lets_go_none f = record {
  flight = ap (λ (ys : List ℕ). let g : FlightState = record f { raised = ys } in g) (sym (without-none f.raised));
  change = λ notifiers k is front. subst (λ (ys : List ℕ). IsChange notifiers f (record k { raised = ys })) (sym (without-none k.raised)) is;
  less = λ notifiers. omega arith;
}

-- one more in front
pub lets_go_then : (y : ClockId) (ys : List ℕ) (f g h : FlightState) → f.front ≡ Empty → g ≡ let_go_of f y → LetsGo y f g → ((notifiers : List NotifierRow) → left_over notifiers g ≤ left_over notifiers f)
    → LetsGoAll ys g h → LetsGoAll (y.0 ∷ ys) f h
lets_go_then y ys f g h front is lets less rest = record {
  flight =
      rest.flight
      ∙ ap (λ (e : FlightState). let r : FlightState = record e { raised = without ys e.raised } in r) (is ∙ ap (λ (x : Front). let r : FlightState = record f { raised = without (y.0 ∷ []) f.raised; front = front_fallen (without (y.0 ∷ []) f.raised) x } in r) front
      ∙ ap (λ (x : Front). let r : FlightState = record f { raised = without (y.0 ∷ []) f.raised; front = x } in r) (sym front))
      ∙ ap (λ (zs : List ℕ). let r : FlightState = record f { raised = zs } in r) (without_more y.0 ys f.raised);
  change = λ notifiers k at none.
      subst (λ (zs : List ℕ). IsChange notifiers h (record k { raised = zs })) (without_more y.0 ys k.raised)
      (rest.change notifiers (record k { raised = without (y.0 ∷ []) k.raised }) (lets notifiers k at none) none);
  less = λ notifiers. let one = rest.less notifiers in let two = less notifiers in omega arith;
}

-- nothing stands in front behind it
pub front_still : (f g : FlightState) (y : ClockId) → f.front ≡ Empty → g ≡ let_go_of f y → g.front ≡ Empty
front_still f g y front is = ap (λ (e : FlightState). e.front) is ∙ ap (front_fallen (without (y.0 ∷ []) f.raised)) front
