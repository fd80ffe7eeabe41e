-- Laws on the clocks that plans move: they are muxes.
use Rattle.std.proofs.Common.{◌≡◌, ℕ, Bool, true, false, not, List, Option, Some, None, refl, sym, ap, ◌∙◌, ◌⊎◌, inl, inr, true≢false}
use Rattle.std.specs.Prelude.{◌*◌, ◌/◌, ◌==◌, nat_le, max, filter, find, IfSome, option_map, option_and_then, is_some}
use Rattle.std.specs.List.{filter_map, AllByRecursion}
use Rattle.std.specs.Int.{div_ceil}
use Rattle.clk_base.specs.declared.clock.Kind.{Kind}
use Rattle.clk_base.specs.declared.clock.Kind.TheVariants.{FixedRate, Factor, Gate, Mux, Divider, Pll}
use Rattle.clk_base.specs.Description.{kind_of}
use Rattle.clk_base.specs.Levels.{depth}
use Rattle.kind_math.specs.Rates.{capped, factor_rate}
use Rattle.kind_math.specs.Choices.{greatest_of}
use Rattle.kind_math.specs.Dividers.{valid_divisors, div_round}
use Rattle.clk_model.specs.Lists.{same_place}
use Rattle.clk_model.specs.Kinds.{mux_field, can_round}
use Rattle.clk_model.specs.State.{ChainStep, link_in}
use Rattle.clk_model.specs.Rate.{style_of}
use Rattle.clk_model.specs.Round.{Wiring, View, Rounded, most_rate, rate_in, parent_rate_in, over_parent, passes_on, through, over_link, best_of, by_divisor, by_kind, clamped, round_by, rate_for, round}
use Rattle.clk_model.specs.Chain.{moves, chain}
use Rattle.clk_model.proofs.Members.{test_same}
use Rattle.clk_model.proofs.PlanLaws.{step_of}
use Rattle.clk_model.proofs.PlanRootLaws.{chain_all}
use Rattle.clk_model.proofs.RoundLaws.{round_or, round_fold, round_tries}

-- a rounding leaves the parent as it is
abbrev Stays : Wiring → ℕ → Rounded → Type 0
Stays w c r = r.parent ≡ link_in w.clocks c

asked_stays : (own : ℕ → ℕ) (ask : ℕ → Option ℕ) (o : Option ℕ) → IfSome (option_and_then (λ p. option_map (through own p) (ask p)) o) (λ r. r.parent ≡ o)
asked_stays own ask None = tt
asked_stays own ask (Some p) = by (ask p) where
  by : (a : Option ℕ) → IfSome (option_map (through own p) a) (λ r. r.parent ≡ Some p)
  by None = tt
  by (Some y) = refl

pub link_stays : (ask : ℕ → ℕ → Option ℕ) (w : Wiring) (c x : ℕ) (own : ℕ → ℕ) → IfSome (over_link ask w c x own) (Stays w c)
link_stays ask w c x own = asked_stays own (λ p. ask p x) (link_in w.clocks c)

pub divisor_stays : (ask : ℕ → ℕ → Option ℕ) (w : Wiring) (c x : ℕ) (divisors : List ℕ) → IfSome (by_divisor ask w c x divisors) (Stays w c)
divisor_stays ask w c x divisors = found (filter (λ i. nat_le (x * i) most_rate) divisors) (find (λ i. x * i == parent_rate_in w c) (filter (λ i. nat_le (x * i) most_rate) divisors)) where
  found : (tried : List ℕ) (o : Option ℕ) → IfSome (elim o [
    | Some i ↦ Some (over_parent w c (div_ceil (parent_rate_in w c) i))
    | None ↦ elim (best_of x (filter_map (λ i. over_link ask w c (x * i) (λ r. div_ceil r i)) tried)) [
      | Some r ↦ Some r
      | None ↦ over_link ask w c 1 (λ r. div_ceil r (greatest_of divisors))
    ]
  ]) (Stays w c)
  found tried (Some i) = refl
  found tried None =
      round_or (Stays w c) (best_of x (filter_map (λ i. over_link ask w c (x * i) (λ r. div_ceil r i)) tried)) (over_link ask w c 1 (λ r. div_ceil r (greatest_of divisors)))
      (round_fold (Stays w c) x None _ tt (round_tries (Stays w c) (λ i. over_link ask w c (x * i) (λ r. div_ceil r i)) tried (λ i m. link_stays ask w c (x * i) (λ r. div_ceil r i))))
      (link_stays ask w c 1 (λ r. div_ceil r (greatest_of divisors)))

-- a rounding leaves the parent, or the clock is a mux
abbrev StaysOrMux : Wiring → ℕ → Rounded → Type 0
StaysOrMux w c r = Stays w c r ⊎ (is_some (mux_field (kind_of w.defs c)) ≡ true)

or_mux : (w : Wiring) (c : ℕ) (o : Option Rounded) → IfSome o (Stays w c) → IfSome o (StaysOrMux w c)
or_mux w c None stays = tt
or_mux w c (Some r) stays = inl stays

mux_any : (w : Wiring) (c : ℕ) (o : Option Rounded) → is_some (mux_field (kind_of w.defs c)) ≡ true → IfSome o (StaysOrMux w c)
mux_any w c None is = tt
mux_any w c (Some r) is = inr is

kind_stays : (ask : ℕ → ℕ → Option ℕ) (w : Wiring) (kind : Kind) (c x : ℕ) → kind_of w.defs c ≡ kind → IfSome (by_kind ask w kind c x) (StaysOrMux w c)
kind_stays ask w (FixedRate rate) c x is = inl refl
kind_stays ask w (Gate word bit set_to_disable) c x is = inl refl
kind_stays ask w (Factor mult div) c x is = or_mux w c _ (both (passes_on w c)) where
  both : (t : Bool) → IfSome (elim t [
    | true ↦ over_link ask w c (capped (x / mult * div)) (λ r. factor_rate r mult div)
    | false ↦ Some (over_parent w c (rate_in w c))
  ]) (Stays w c)
  both true = link_stays ask w c (capped (x / mult * div)) (λ r. factor_rate r mult div)
  both false = refl
kind_stays ask w (Divider word shift width one_based power_of_two) c x is = or_mux w c _ (both (passes_on w c)) where
  both : (t : Bool) → IfSome (elim t [
    | true ↦ by_divisor ask w c (max x 1) (valid_divisors (style_of one_based power_of_two) width)
    | false ↦ Some (over_parent w c (div_ceil (parent_rate_in w c) (div_round (parent_rate_in w c) x width (style_of one_based power_of_two))))
  ]) (Stays w c)
  both true = divisor_stays ask w c (max x 1) (valid_divisors (style_of one_based power_of_two) width)
  both false = refl
kind_stays ask w (Mux word shift width read_only) c x is = mux_any w c (by_kind ask w (Mux word shift width read_only) c x) (ap (λ (k : Kind). is_some (mux_field k)) is)
kind_stays ask w (Pll word shift width power_word power_bit least most m) c x is = inl refl

by_stays : (ask : ℕ → ℕ → Option ℕ) (w : Wiring) (view : View) (c x : ℕ) → IfSome (round_by ask w view c x) (StaysOrMux w c)
by_stays ask w view c x = both (can_round (kind_of w.defs c)) (passes_on w c) (view.guarded c) where
  both : (t u g : Bool) → IfSome (elim t [
    | false ↦ elim u [ true ↦ over_link ask w c x (λ r. r) | false ↦ Some (over_parent w c (rate_in w c)) ]
    | true ↦ elim g [
      | true ↦ Some (over_parent w c (rate_in w c))
      | false ↦ by_kind ask w (kind_of w.defs c) c (clamped view c x)
    ]
  ]) (StaysOrMux w c)
  both false true g = or_mux w c (over_link ask w c x (λ r. r)) (link_stays ask w c x (λ r. r))
  both false false g = inl refl
  both true u true = inl refl
  both true u false = kind_stays ask w (kind_of w.defs c) c (clamped view c x) refl

rounds_stay : (w : Wiring) (view : View) (c x : ℕ) → IfSome (round w view c x) (StaysOrMux w c)
unfolding round
rounds_stay w view c x = by_stays (rate_for depth w view) w view c x

-- a place is the same as itself
pub place_self : (o : Option ℕ) → same_place o o ≡ true
place_self None = refl
place_self (Some x) = test_same x

-- a step that moves its clock
abbrev pub IsMux : Wiring → ChainStep → Type 0
IsMux w k = moves w.clocks k ≡ true → is_some (mux_field (kind_of w.defs k.clock)) ≡ true

-- each clock that a plan moves is a mux
pub moved_are_muxes : (w : Wiring) (view : View) (c x : ℕ) (ks : List ChainStep) → chain w view c x ≡ Some ks → AllByRecursion (IsMux w) ks
moved_are_muxes w view c x ks e =
    chain_all (StaysOrMux w) (λ d. Unit {0}) (IsMux w) w view c x ks
    (record { rounds = λ d y. rounds_stay w view d y; here = λ d r own is away. by d r is away; up = λ d p r own is at asks. tt }) tt e where
      by : (d : ℕ) (r : Rounded) → StaysOrMux w d r → moves w.clocks (step_of d r) ≡ true → is_some (mux_field (kind_of w.defs d)) ≡ true
      by d r (inr is) away = is
      by d r (inl stays) away =
          absurd (true≢false (sym away ∙ ap (λ (o : Option ℕ). not (same_place o (link_in w.clocks d))) stays ∙ ap not (place_self (link_in w.clocks d))))
