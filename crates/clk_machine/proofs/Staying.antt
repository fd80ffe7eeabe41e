-- A request for a rate leaves a clock its parent that it may not move.
use Rattle.std.proofs.Common.{◌≡◌, ℕ, ◌&&◌, not, Bool, true, false, Option, Some, refl, max}
use Rattle.std.specs.Prelude.{◌*◌, ◌/◌, IfSome, is_some}
use Rattle.std.specs.Int.{div_ceil}
use Rattle.clk_base.specs.declared.clock.Kind.{Kind}
use Rattle.clk_base.specs.declared.clock.Kind.TheVariants.{FixedRate, Factor, Gate, Mux, Divider, Pll}
use Rattle.clk_base.specs.Description.{def_of, kind_of}
use Rattle.clk_base.specs.Flags.{keeps_parent}
use Rattle.clk_base.specs.Levels.{depth}
use Rattle.kind_math.specs.Dividers.{valid_divisors, div_round}
use Rattle.kind_math.specs.Rates.{capped, factor_rate}
use Rattle.clk_model.specs.Kinds.{can_round, mux_field}
use Rattle.clk_model.specs.Rate.{style_of}
use Rattle.clk_model.specs.Round.{Wiring, View, Rounded, rate_in, parent_rate_in, over_parent, passes_on, over_link, by_divisor, by_candidate, by_kind, clamped, rate_for, round_by, round}
use Rattle.clk_model.specs.State.{link_in}
use Rattle.clk_model.proofs.MuxLaws.{link_stays, divisor_stays}
use Rattle.core_parts.specs.Movable.{may_move}

-- ---- rounding

-- whether a rounding leaves a clock its parent
abbrev pub Stays : Wiring → ℕ → Rounded → Type 0
Stays w c r = r.parent ≡ link_in w.clocks c

kind_stays : (ask : ℕ → ℕ → Option ℕ) (w : Wiring) (kind : Kind) (c x : ℕ) → (is_some (mux_field kind) && can_round kind && not (keeps_parent w.defs c)) ≡ false → can_round kind ≡ true → IfSome (by_kind ask w kind c x) (Stays w c)
kind_stays ask w (FixedRate rate) c x stays can = refl
kind_stays ask w (Gate word bit set_to_disable) c x stays can = refl
kind_stays ask w (Factor mult div) c x stays can = both (passes_on w c) where
  both : (t : Bool) → IfSome (elim t [
    | true ↦ over_link ask w c (capped (x / mult * div)) (λ r. factor_rate r mult div)
    | false ↦ Some (over_parent w c (rate_in w c))
  ]) (Stays w c)
  both true = link_stays ask w c (capped (x / mult * div)) (λ r. factor_rate r mult div)
  both false = refl
kind_stays ask w (Divider word shift width one_based power_of_two) c x stays can = both (passes_on w c) where
  both : (t : Bool) → IfSome (elim t [
    | true ↦ by_divisor ask w c (max x 1) (valid_divisors (style_of one_based power_of_two) width)
    | false ↦ Some (over_parent w c (div_ceil (parent_rate_in w c) (div_round (parent_rate_in w c) x width (style_of one_based power_of_two))))
  ]) (Stays w c)
  both true = divisor_stays ask w c (max x 1) (valid_divisors (style_of one_based power_of_two) width)
  both false = refl
kind_stays ask w (Mux word shift width read_only) c x stays can = both read_only (keeps_parent w.defs c) (passes_on w c) stays can where
  both : (o t u : Bool) → (true && not o && not t) ≡ false → not o ≡ true → IfSome (elim t [
    | true ↦ elim u [ true ↦ over_link ask w c x (λ r. r) | false ↦ Some (over_parent w c (parent_rate_in w c)) ]
    | false ↦ by_candidate ask w c x
  ]) (Stays w c)
  both true t u s e = absurd cc
  both false true true s e = link_stays ask w c x (λ r. r)
  both false true false s e = refl
  both false false u s e = absurd cc
kind_stays ask w (Pll word shift width power_word power_bit least most m) c x stays can = refl

by_stays : (ask : ℕ → ℕ → Option ℕ) (w : Wiring) (view : View) (c x : ℕ) → may_move (def_of w.defs c) ≡ false → IfSome (round_by ask w view c x) (Stays w c)
by_stays ask w view c x stays = both (can_round (kind_of w.defs c)) refl (passes_on w c) (view.guarded c) where
  both : (t : Bool) → can_round (kind_of w.defs c) ≡ t → (u g : Bool) → IfSome (elim t [
    | false ↦ elim u [ true ↦ over_link ask w c x (λ r. r) | false ↦ Some (over_parent w c (rate_in w c)) ]
    | true ↦ elim g [
      | true ↦ Some (over_parent w c (rate_in w c))
      | false ↦ by_kind ask w (kind_of w.defs c) c (clamped view c x)
    ]
  ]) (Stays w c)
  both false can true g = link_stays ask w c x (λ r. r)
  both false can false g = refl
  both true can u true = refl
  both true can u false = kind_stays ask w (kind_of w.defs c) c (clamped view c x) stays can

-- a rounding leaves a clock its parent that may not be moved
pub round_stays : (w : Wiring) (view : View) (c x : ℕ) → may_move (def_of w.defs c) ≡ false → IfSome (round w view c x) (Stays w c)
unfolding round
round_stays w view c x stays = by_stays (rate_for depth w view) w view c x stays
