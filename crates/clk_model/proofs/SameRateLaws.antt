-- Laws on trees with the same links and rates: rounding is the same over them.
use Rattle.std.proofs.Common.{◌≡◌, ℕ, zero, suc, Bool, true, false, List, Option, Some, None, refl, ap, ◌∙◌}
use mathlib.Core.Path.{fun_ext}
use Rattle.std.specs.Prelude.{◌*◌, ◌/◌, ◌==◌, nat_le, max, filter, find, option_map}
use Rattle.std.specs.List.{filter_map}
use Rattle.std.specs.Option.{option_map_or}
use Rattle.std.specs.Int.{div_ceil}
use Rattle.clk_base.specs.declared.clock.Kind.{Kind}
use Rattle.clk_base.specs.declared.clock.Kind.TheVariants.{FixedRate, Factor, Gate, Mux, Divider, Pll}
use Rattle.clk_base.specs.Description.{Description, kind_of, parents_of}
use Rattle.reg_bank.specs.Registers.{Registers}
use Rattle.clk_model.specs.declared.row.ClockRow.{ClockRow}
use Rattle.clk_model.specs.State.{link_in}
use Rattle.clk_base.specs.Flags.{keeps_parent, sets_rate_parent}
use Rattle.clk_base.specs.Levels.{depth}
use Rattle.kind_math.specs.Rates.{capped, factor_rate, pll_rate}
use Rattle.kind_math.specs.Choices.{greatest_of}
use Rattle.kind_math.specs.Dividers.{valid_divisors, div_round}
use Rattle.kind_math.specs.Plls.{pll_multiplier}
use Rattle.clk_model.specs.Kinds.{can_round}
use Rattle.clk_model.specs.Tree.{rooted}
use Rattle.clk_model.specs.Rate.{style_of, rate}
use Rattle.clk_model.specs.Round.{Wiring, View, Rounded, most_rate, rate_in, parent_rate_in, over_parent, passes_on, through, over_link, best_of, by_divisor, by_candidate, by_kind, clamped, round_by, rate_for, round}

-- a tree over registers
abbrev pub tree_over : Description → List ClockRow → Registers → Wiring
tree_over defs clocks regs = record { defs = defs; regs = regs; clocks = clocks }

-- a rounding that leaves the parent as it is, by the rates of a tree
abbrev stays_over : List ClockRow → (ℕ → ℕ) → ℕ → ℕ → Rounded
stays_over clocks rates c r = record { rate = r; parent = link_in clocks c; parent_rate = option_map_or rates (link_in clocks c) 0 }

-- two roundings are the same
abbrev Same : Option Rounded → Option Rounded → Type 0
Same a b = a ≡ b

-- ---- rounding

divisor_same : (ask : ℕ → ℕ → Option ℕ) (defs : Description) (clocks : List ClockRow) (old new : Registers) (c x : ℕ) (divisors : List ℕ) → rate defs new clocks ≡ rate defs old clocks
    → by_divisor ask (tree_over defs clocks new) c x divisors ≡ by_divisor ask (tree_over defs clocks old) c x divisors
divisor_same ask defs clocks old new c x divisors same =
    ap (λ (rates : ℕ → ℕ). elim (find (λ i. x * i == option_map_or rates (link_in clocks c) 0) (filter (λ i. nat_le (x * i) most_rate) divisors)) [
      | Some i ↦ Some (stays_over clocks rates c (div_ceil (option_map_or rates (link_in clocks c) 0) i))
      | None ↦ elim (best_of x (filter_map (λ i. over_link ask (tree_over defs clocks old) c (x * i) (λ r. div_ceil r i)) (filter (λ i. nat_le (x * i) most_rate) divisors))) [
        | Some r ↦ Some r
        | None ↦ over_link ask (tree_over defs clocks old) c 1 (λ r. div_ceil r (greatest_of divisors))
      ]
    ]) same

candidate_same : (ask : ℕ → ℕ → Option ℕ) (defs : Description) (clocks : List ClockRow) (old new : Registers) (c x : ℕ) → rate defs new clocks ≡ rate defs old clocks
    → by_candidate ask (tree_over defs clocks new) c x ≡ by_candidate ask (tree_over defs clocks old) c x
candidate_same ask defs clocks old new c x same =
    ap (λ (rates : ℕ → ℕ). best_of x (filter_map (λ p. option_map (through (λ r. r) p) (elim (sets_rate_parent defs c) [ true ↦ ask p x | false ↦ Some (rates p) ]))
    (filter (rooted defs clocks) (parents_of defs c)))) same

kind_same : (ask : ℕ → ℕ → Option ℕ) (defs : Description) (clocks : List ClockRow) (old new : Registers) (kind : Kind) (c x : ℕ) → rate defs new clocks ≡ rate defs old clocks
    → by_kind ask (tree_over defs clocks new) kind c x ≡ by_kind ask (tree_over defs clocks old) kind c x
kind_same ask defs clocks old new (FixedRate fixed) c x same = ap (λ (rates : ℕ → ℕ). Some (stays_over clocks rates c (rates c))) same
kind_same ask defs clocks old new (Gate word bit set_to_disable) c x same = ap (λ (rates : ℕ → ℕ). Some (stays_over clocks rates c (rates c))) same
kind_same ask defs clocks old new (Factor mult div) c x same =
    ap (λ (rates : ℕ → ℕ). elim (passes_on (tree_over defs clocks old) c) [
      | true ↦ over_link ask (tree_over defs clocks old) c (capped (x / mult * div)) (λ r. factor_rate r mult div)
      | false ↦ Some (stays_over clocks rates c (rates c))
    ]) same
kind_same ask defs clocks old new (Divider word shift width one_based power_of_two) c x same = both (passes_on (tree_over defs clocks old) c) where
  both : (t : Bool) → Same (elim t [
    | true ↦ by_divisor ask (tree_over defs clocks new) c (max x 1) (valid_divisors (style_of one_based power_of_two) width)
    | false ↦ Some (over_parent (tree_over defs clocks new) c (div_ceil (parent_rate_in (tree_over defs clocks new) c) (div_round (parent_rate_in (tree_over defs clocks new) c) x width (style_of one_based power_of_two))))
  ]) (elim t [
    | true ↦ by_divisor ask (tree_over defs clocks old) c (max x 1) (valid_divisors (style_of one_based power_of_two) width)
    | false ↦ Some (over_parent (tree_over defs clocks old) c (div_ceil (parent_rate_in (tree_over defs clocks old) c) (div_round (parent_rate_in (tree_over defs clocks old) c) x width (style_of one_based power_of_two))))
  ])
  both true = divisor_same ask defs clocks old new c (max x 1) (valid_divisors (style_of one_based power_of_two) width) same
  both false =
      ap (λ (rates : ℕ → ℕ). Some (stays_over clocks rates c
      (div_ceil (option_map_or rates (link_in clocks c) 0) (div_round (option_map_or rates (link_in clocks c) 0) x width (style_of one_based power_of_two))))) same
kind_same ask defs clocks old new (Mux word shift width read_only) c x same = both (keeps_parent defs c) where
  both : (t : Bool) → Same (elim t [
    | true ↦ elim (passes_on (tree_over defs clocks new) c) [ true ↦ over_link ask (tree_over defs clocks new) c x (λ r. r) | false ↦ Some (over_parent (tree_over defs clocks new) c (parent_rate_in (tree_over defs clocks new) c)) ]
    | false ↦ by_candidate ask (tree_over defs clocks new) c x
  ]) (elim t [
    | true ↦ elim (passes_on (tree_over defs clocks old) c) [ true ↦ over_link ask (tree_over defs clocks old) c x (λ r. r) | false ↦ Some (over_parent (tree_over defs clocks old) c (parent_rate_in (tree_over defs clocks old) c)) ]
    | false ↦ by_candidate ask (tree_over defs clocks old) c x
  ])
  both true =
      ap (λ (rates : ℕ → ℕ). elim (passes_on (tree_over defs clocks old) c) [
        | true ↦ over_link ask (tree_over defs clocks old) c x (λ r. r)
        | false ↦ Some (stays_over clocks rates c (option_map_or rates (link_in clocks c) 0))
      ]) same
  both false = candidate_same ask defs clocks old new c x same
kind_same ask defs clocks old new (Pll word shift width power_word power_bit least most m) c x same =
    ap (λ (rates : ℕ → ℕ). Some (stays_over clocks rates c
    (pll_rate (option_map_or rates (link_in clocks c) 0) (pll_multiplier (option_map_or rates (link_in clocks c) 0) x least most m) m))) same

round_by_same : (ask : ℕ → ℕ → Option ℕ) (defs : Description) (clocks : List ClockRow) (old new : Registers) (view : View) (c x : ℕ) → rate defs new clocks ≡ rate defs old clocks
    → round_by ask (tree_over defs clocks new) view c x ≡ round_by ask (tree_over defs clocks old) view c x
round_by_same ask defs clocks old new view c x same = both (can_round (kind_of defs c)) (view.guarded c) where
  both : (t g : Bool) → Same (elim t [
    | false ↦ elim (passes_on (tree_over defs clocks new) c) [ true ↦ over_link ask (tree_over defs clocks new) c x (λ r. r) | false ↦ Some (over_parent (tree_over defs clocks new) c (rate_in (tree_over defs clocks new) c)) ]
    | true ↦ elim g [
      | true ↦ Some (over_parent (tree_over defs clocks new) c (rate_in (tree_over defs clocks new) c))
      | false ↦ by_kind ask (tree_over defs clocks new) (kind_of defs c) c (clamped view c x)
    ]
  ]) (elim t [
    | false ↦ elim (passes_on (tree_over defs clocks old) c) [ true ↦ over_link ask (tree_over defs clocks old) c x (λ r. r) | false ↦ Some (over_parent (tree_over defs clocks old) c (rate_in (tree_over defs clocks old) c)) ]
    | true ↦ elim g [
      | true ↦ Some (over_parent (tree_over defs clocks old) c (rate_in (tree_over defs clocks old) c))
      | false ↦ by_kind ask (tree_over defs clocks old) (kind_of defs c) c (clamped view c x)
    ]
  ])
  both false g =
      ap (λ (rates : ℕ → ℕ). elim (passes_on (tree_over defs clocks old) c) [
        | true ↦ over_link ask (tree_over defs clocks old) c x (λ r. r)
        | false ↦ Some (stays_over clocks rates c (rates c))
      ]) same
  both true true = ap (λ (rates : ℕ → ℕ). Some (stays_over clocks rates c (rates c))) same
  both true false = kind_same ask defs clocks old new (kind_of defs c) c (clamped view c x) same

-- trees with the same links and rates give the same rate for a request
rate_for_same : (levels : ℕ) (defs : Description) (clocks : List ClockRow) (old new : Registers) (view : View) → rate defs new clocks ≡ rate defs old clocks
    → rate_for levels (tree_over defs clocks new) view ≡ rate_for levels (tree_over defs clocks old) view
rate_for_same zero defs clocks old new view same = refl
rate_for_same (suc levels) defs clocks old new view same =
    fun_ext (λ c. fun_ext (λ x.
    ap (λ (ask : ℕ → ℕ → Option ℕ). option_map (λ r. r.rate) (round_by ask (tree_over defs clocks new) view c x)) (rate_for_same levels defs clocks old new view same)
    ∙ ap (λ (o : Option Rounded). option_map (λ r. r.rate) o) (round_by_same (rate_for levels (tree_over defs clocks old) view) defs clocks old new view c x same)))

-- and round alike
pub round_same : (defs : Description) (clocks : List ClockRow) (old new : Registers) (view : View) (c x : ℕ) → rate defs new clocks ≡ rate defs old clocks
    → round (tree_over defs clocks new) view c x ≡ round (tree_over defs clocks old) view c x
unfolding round
round_same defs clocks old new view c x same =
    ap (λ (ask : ℕ → ℕ → Option ℕ). round_by ask (tree_over defs clocks new) view c x) (rate_for_same depth defs clocks old new view same)
    ∙ round_by_same (rate_for depth (tree_over defs clocks old) view) defs clocks old new view c x same
