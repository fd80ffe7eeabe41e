-- What the code's roundings come to, try by try, and what they ask of the kind of a clock.
use Rattle.std.specs.Prelude.{ℕ, ◌*◌, ◌^◌, ◌<◌, ◌≤◌, List, true, false, Option, Some, None, filter, fold, max, nat_le}
use Rattle.std.specs.List.{filter_map}
use Rattle.std.specs.Int.{div_ceil}
use Rattle.clk_base.specs.declared.clock.Kind.{Kind}
use Rattle.clk_base.specs.declared.clock.Kind.TheVariants.{FixedRate, Factor, Gate, Mux, Divider, Pll}
use Rattle.kind_math.specs.declared.div_style.DivStyle.{DivStyle}
use Rattle.kind_math.specs.Dividers.{IsDividerWidth, valid_divisors, div_round}
use Rattle.clk_base.specs.Flags.{keeps_parent}
use Rattle.clk_model.specs.Rate.{style_of}
use Rattle.clk_model.specs.Round as round
use Rattle.clk_model.specs.Tree.{rooted}

-- the parameters by which a kind divides and multiplies are in their ranges
abbrev pub CanScale : Kind → Type 0
CanScale (FixedRate rate) = Unit {0}
CanScale (Factor mult div) = (0 < mult) × (0 < div)
CanScale (Gate word bit set_to_disable) = Unit {0}
CanScale (Mux word shift width read_only) = Unit {0}
CanScale (Divider word shift width one_based power_of_two) = IsDividerWidth (style_of one_based power_of_two) width
CanScale (Pll word shift width power_word power_bit least most m) = (least ≤ most) × (0 < m) × (most < 2 ^ width)

-- the best so far after one more try: a try that gives nothing leaves it
abbrev pub after_try : ℕ → Option round.Rounded → Option round.Rounded → Option round.Rounded
after_try x best None = best
after_try x best (Some r) = round.better x best r

-- the best after what the linked parent gives for the product of a wanted rate with each of these divisors
abbrev pub after_divisors : (ℕ → ℕ → Option ℕ) → round.Wiring → ℕ → ℕ → Option round.Rounded → List ℕ → Option round.Rounded
after_divisors ask w c x best divisors =
    fold (round.better x) best (filter_map (λ i. round.over_link ask w c (x * i) (λ r. div_ceil r i)) (filter (λ i. nat_le (x * i) round.most_rate) divisors))

-- what a possible parent of a mux gives, and nothing if it isn't rooted
abbrev pub over_rooted : (ℕ → ℕ → Option ℕ) → round.Wiring → ℕ → ℕ → ℕ → Option round.Rounded
over_rooted ask w c x p = elim (rooted w.defs w.clocks p) [ true ↦ round.over_candidate ask w c x p | false ↦ None ]

-- the best after what each of these possible parents gives
abbrev pub after_candidates : (ℕ → ℕ → Option ℕ) → round.Wiring → ℕ → ℕ → Option round.Rounded → List ℕ → Option round.Rounded
after_candidates ask w c x best parents =
    fold (round.better x) best (filter_map (round.over_candidate ask w c x) (filter (rooted w.defs w.clocks) parents))

-- the rounding of a divider by its style, as the definitions have it of its kind
abbrev pub divider_rounding : (ℕ → ℕ → Option ℕ) → round.Wiring → ℕ → ℕ → ℕ → DivStyle → Option round.Rounded
divider_rounding ask w c x width style =
    elim (round.passes_on w c) [
      | true ↦ round.by_divisor ask w c (max x 1) (valid_divisors style width)
      | false ↦ Some (round.over_parent w c (div_ceil (round.parent_rate_in w c) (div_round (round.parent_rate_in w c) x width style)))
    ]

-- the rounding of a mux, which is the same of every field
abbrev pub mux_rounding : (ℕ → ℕ → Option ℕ) → round.Wiring → ℕ → ℕ → Option round.Rounded
mux_rounding ask w c x =
    elim (keeps_parent w.defs c) [
      | true ↦ elim (round.passes_on w c) [ true ↦ round.over_link ask w c x (λ r. r) | false ↦ Some (round.over_parent w c (round.parent_rate_in w c)) ]
      | false ↦ round.by_candidate ask w c x
    ]
