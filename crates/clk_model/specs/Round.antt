-- Rounding: the rate that a clock would get for a request.
use Rattle.std.specs.Prelude.{ℕ, zero, suc, ◌*◌, ◌/◌, List, Bool, true, false, ◌&&◌, ◌==◌, nat_lt, nat_le, min, max, Option, Some, None, filter, fold, find, if◌then◌else◌, option_map, option_and_then, is_some}
use Rattle.std.specs.List.{filter_map}
use Rattle.std.specs.Option.{option_map_or}
use Rattle.clk_base.specs.declared.clock.Kind.{Kind}
use Rattle.clk_base.specs.declared.clock.Kind.TheVariants as kinds
use Rattle.clk_base.specs.Description.{Description, kind_of, parents_of}
use Rattle.clk_base.specs.Levels.{depth}
use Rattle.clk_base.specs.Flags.{keeps_parent, sets_rate_parent}
use Rattle.reg_bank.specs.Registers.{Registers}
use Rattle.std.specs.Int.{div_ceil}
use Rattle.kind_math.specs.Rates.{capped, factor_rate, pll_rate}
use Rattle.kind_math.specs.Choices.{greatest_of}
use Rattle.kind_math.specs.Dividers.{valid_divisors, div_round}
use Rattle.kind_math.specs.Plls.{pll_multiplier}
use Rattle.clk_model.specs.declared.row.ClockRow.{ClockRow}
use Rattle.clk_model.specs.Kinds.{can_round}
use Rattle.clk_model.specs.State.{State, link_in}
use Rattle.clk_model.specs.Tree.{rooted}
use Rattle.clk_model.specs.Rate.{rate, style_of}

-- a tree as the registers set it
pub record Wiring : Type 0 where
  pub defs : Description
  pub regs : Registers
  pub clocks : List ClockRow

-- the tree of a state
abbrev pub wiring : State → Wiring
wiring s = record { defs = s.defs; regs = s.regs; clocks = s.clocks }

-- what planning reads besides the tree: the boundaries of a clock, whether it is guarded, and whether it is prepared
pub record View : Type 0 where
  pub low : ℕ → ℕ
  pub high : ℕ → ℕ
  pub guarded : ℕ → Bool
  pub prepared : ℕ → Bool

-- a rounded rate, with the parent that gives it and that parent's rate
pub record Rounded : Type 0 where
  pub rate : ℕ
  pub parent : Option ℕ
  pub parent_rate : ℕ

-- the greatest rate that there is, in Hz
abbrev pub most_rate : ℕ
most_rate = 18446744073709551615

-- the rate of a clock now
abbrev pub rate_in : Wiring → ℕ → ℕ
rate_in w c = rate w.defs w.regs w.clocks c

-- the rate of the parent now, 0 where there is none
abbrev pub parent_rate_in : Wiring → ℕ → ℕ
parent_rate_in w c = option_map_or (rate_in w) (link_in w.clocks c) 0

-- a rounding that leaves the parent as it is and gives this rate
abbrev pub over_parent : Wiring → ℕ → ℕ → Rounded
over_parent w c r = record { rate = r; parent = link_in w.clocks c; parent_rate = parent_rate_in w c }

-- whether a request is passed on to the parent
abbrev pub passes_on : Wiring → ℕ → Bool
passes_on w c = sets_rate_parent w.defs c && is_some (link_in w.clocks c)

-- a rate that a parent gives, as the clock makes it its own
abbrev pub through : (ℕ → ℕ) → ℕ → ℕ → Rounded
through own p r = record { rate = own r; parent = Some p; parent_rate = r }

-- what the linked parent gives for a request, as the clock makes it its own
abbrev pub over_link : (ℕ → ℕ → Option ℕ) → Wiring → ℕ → ℕ → (ℕ → ℕ) → Option Rounded
over_link ask w c x own = option_and_then (λ p. option_map (through own p) (ask p x)) (link_in w.clocks c)

-- the better of two for a request: the later one where it isn't above the request and is greater than the one so far
abbrev pub better : ℕ → Option Rounded → Rounded → Option Rounded
better x best r =
    if nat_le r.rate x && nat_lt (option_map_or (λ b. b.rate) best 0) r.rate then Some r else best

-- the greatest of the tries that is above 0 and not above the request, the first of equals
abbrev pub best_of : ℕ → List Rounded → Option Rounded
best_of x tries = fold (better x) None tries

-- a divider that asks its parent: a divisor that the parent's rate fits already, else the best over what the parent gives
-- for each divisor, else the greatest divisor
abbrev pub by_divisor : (ℕ → ℕ → Option ℕ) → Wiring → ℕ → ℕ → List ℕ → Option Rounded
by_divisor ask w c x divisors =
    let tried = filter (λ i. nat_le (x * i) most_rate) divisors in
    elim (find (λ i. x * i == parent_rate_in w c) tried) [
      | Some i ↦ Some (over_parent w c (div_ceil (parent_rate_in w c) i))
      | None ↦ elim (best_of x (filter_map (λ i. over_link ask w c (x * i) (λ r. div_ceil r i)) tried)) [
        | Some r ↦ Some r
        | None ↦ over_link ask w c 1 (λ r. div_ceil r (greatest_of divisors))
      ]
    ]

-- what a possible parent of a mux gives: its rounding where requests are passed on, else its rate now
abbrev pub over_candidate : (ℕ → ℕ → Option ℕ) → Wiring → ℕ → ℕ → ℕ → Option Rounded
over_candidate ask w c x p =
    option_map (through (λ r. r) p) (elim (sets_rate_parent w.defs c) [ true ↦ ask p x | false ↦ Some (rate_in w p) ])

-- a mux that may move: the best over its candidates, the possible parents that are rooted
abbrev pub by_candidate : (ℕ → ℕ → Option ℕ) → Wiring → ℕ → ℕ → Option Rounded
by_candidate ask w c x = best_of x (filter_map (over_candidate ask w c x) (filter (rooted w.defs w.clocks) (parents_of w.defs c)))

-- the rounding of a clock that can round and isn't guarded
abbrev pub by_kind : (ℕ → ℕ → Option ℕ) → Wiring → Kind → ℕ → ℕ → Option Rounded
by_kind ask w (kinds.Factor mult div) c x =
    elim (passes_on w c) [
      | true ↦ over_link ask w c (capped (x / mult * div)) (λ r. factor_rate r mult div)
      | false ↦ Some (over_parent w c (rate_in w c))
    ]
by_kind ask w (kinds.Divider word shift width one_based power_of_two) c x =
    elim (passes_on w c) [
      | true ↦ by_divisor ask w c (max x 1) (valid_divisors (style_of one_based power_of_two) width)
      | false ↦ Some (over_parent w c (div_ceil (parent_rate_in w c) (div_round (parent_rate_in w c) x width (style_of one_based power_of_two))))
    ]
by_kind ask w (kinds.Mux word shift width read_only) c x =
    elim (keeps_parent w.defs c) [
      | true ↦ elim (passes_on w c) [ true ↦ over_link ask w c x (λ r. r) | false ↦ Some (over_parent w c (parent_rate_in w c)) ]
      | false ↦ by_candidate ask w c x
    ]
by_kind ask w (kinds.Pll word shift width power_word power_bit least most m) c x =
    Some (over_parent w c (pll_rate (parent_rate_in w c) (pll_multiplier (parent_rate_in w c) x least most m) m))
by_kind ask w _ c x = Some (over_parent w c (rate_in w c))

-- a request between the boundaries of the clock
abbrev pub clamped : View → ℕ → ℕ → ℕ
clamped view c x = min (view.high c) (max (view.low c) x)

-- one level of rounding, where ask is the answer of a parent
abbrev pub round_by : (ℕ → ℕ → Option ℕ) → Wiring → View → ℕ → ℕ → Option Rounded
round_by ask w view c x =
    elim (can_round (kind_of w.defs c)) [
      | false ↦ elim (passes_on w c) [ true ↦ over_link ask w c x (λ r. r) | false ↦ Some (over_parent w c (rate_in w c)) ]
      | true ↦ elim (view.guarded c) [
        | true ↦ Some (over_parent w c (rate_in w c))
        | false ↦ by_kind ask w (kind_of w.defs c) c (clamped view c x)
      ]
    ]

-- the rate that a clock would get for a request, over at most so many levels of parents
abbrev pub rate_for : ℕ → Wiring → View → ℕ → ℕ → Option ℕ
rate_for zero w view c x = None
rate_for (suc levels) w view c x = option_map (λ r. r.rate) (round_by (rate_for levels w view) w view c x)

-- the rate that a clock would get for a request, with the parent that gives it
unfoldable pub round : Wiring → View → ℕ → ℕ → Option Rounded
round w view c x = round_by (rate_for depth w view) w view c x

-- the rate that a clock would get for a request, without the parent that gives it
abbrev pub round_rate : Wiring → View → ℕ → ℕ → Option ℕ
round_rate w view c x = option_map (λ r. r.rate) (round w view c x)
