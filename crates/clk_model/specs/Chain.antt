-- Planning: the chain of clocks that a request changes, and what comes out of it.
use Rattle.std.specs.Prelude.{ℕ, zero, suc, ◌==◌, List, [], ◌∷◌, Bool, true, false, not, ◌&&◌, ◌||◌, nat_le, Option, Some, None, if◌then◌else◌, option_map, option_and_then, slice_set}
use Rattle.std.specs.List.{list_all, position_or_len}
use Rattle.std.specs.Option.{option_map_or}
use Rattle.clk_base.specs.declared.clock.ClockId.{ClockId}
use Rattle.clk_base.specs.declared.clock.Kind.{Kind}
use Rattle.clk_base.specs.declared.clock.Kind.TheVariants as kinds
use Rattle.clk_base.specs.Description.{Description, kind_of, parents_of}
use Rattle.clk_base.specs.Levels.{depth}
use Rattle.clk_base.specs.Flags.{sets_parent_gate, sets_rate_parent}
use Rattle.reg_bank.specs.Registers.{Registers, put}
use Rattle.kind_math.specs.Dividers.{div_setting}
use Rattle.kind_math.specs.Plls.{pll_multiplier}
use Rattle.clk_model.specs.declared.row.ClockRow.{ClockRow}
use Rattle.clk_model.specs.Lists.{is_at, same_place}
use Rattle.clk_model.specs.Kinds.{can_round, mux_field}
use Rattle.clk_model.specs.State.{ChainStep, row_of, link_in}
use Rattle.clk_model.specs.Round.{Wiring, View, Rounded, rate_in, parent_rate_in, passes_on, round}
use Rattle.clk_model.specs.Rate.{style_of}

-- the clock at a place
abbrev pub clock_id : ℕ → ClockId
clock_id c = record { 0 = c }

-- the clock gets this parent
abbrev pub linked : List ClockRow → ℕ → ℕ → List ClockRow
linked clocks c p = slice_set clocks c (record (row_of clocks c) { link = Some (clock_id p) })

-- whether the planned parent of a clock is another than the one it has
abbrev pub moves : List ClockRow → ChainStep → Bool
moves clocks k = not (same_place k.parent (link_in clocks k.clock))

-- ---- settings

-- the least place of a parent in the list of a mux
abbrev pub place_of : Description → ℕ → ℕ → ℕ
place_of defs c p = position_or_len (λ q. q == p) (parents_of defs c)

-- the field that a divider or a PLL gets for its planned rate, over the rate of its parent
abbrev pub setting : Kind → ℕ → ℕ → Registers → Registers
setting (kinds.Divider word shift width one_based power_of_two) parent planned regs =
    put regs word shift width (div_setting parent planned width (style_of one_based power_of_two))
setting (kinds.Pll word shift width power_word power_bit least most m) parent planned regs =
    put regs word shift width (pll_multiplier parent planned least most m)
setting _ parent planned regs = regs

-- a mux selects a parent
abbrev pub select : Description → ℕ → ℕ → Registers → Registers
select defs c p regs = option_map_or (λ f. put regs f.word f.shift f.width (place_of defs c p)) (mux_field (kind_of defs c)) regs

-- the tree after one clock's setting
abbrev pub set_one : ChainStep → Wiring → Wiring
set_one k w = record w {
  regs = if moves w.clocks k then option_map_or (λ p. select w.defs k.clock p w.regs) k.parent w.regs
      else setting (kind_of w.defs k.clock) (parent_rate_in w k.clock) k.rate w.regs;
  clocks = if moves w.clocks k then option_map_or (linked w.clocks k.clock) k.parent w.clocks else w.clocks;
}

-- the tree after all settings, from the top down
unfoldable pub outcome : List ChainStep → Wiring → Wiring
outcome [] w = w
outcome (k ∷ ks) w = set_one k (outcome ks w)

-- ---- the chain

-- one clock of the chain and the rest of it, where more is the chain of a parent: none where a prepared clock would leave a parent
-- that it has to keep, and the rest where the clock asks its parent for another rate than it has
abbrev pub chain_from : (ℕ → ℕ → Option (List ChainStep)) → Wiring → View → ℕ → ℕ → Rounded → Option (List ChainStep)
chain_from more w view c x r =
    let step : ChainStep = record { clock = c; rate = r.rate; parent = r.parent } in
    elim (moves w.clocks step && sets_parent_gate w.defs c && view.prepared c) [
      | true ↦ None
      | false ↦ elim (sets_rate_parent w.defs c && not (is_at r.parent_rate (option_map (rate_in w) r.parent))) [
        | true ↦ option_map (λ ks. step ∷ ks) (option_and_then (λ p. more p (if can_round (kind_of w.defs c) then r.parent_rate else x)) r.parent)
        | false ↦ Some (step ∷ [])
      ]
    ]

-- the chain from a clock that can round or passes requests on, within so many levels
abbrev pub chain_within : ℕ → Wiring → View → ℕ → ℕ → Option (List ChainStep)
chain_within zero w view c x = None
chain_within (suc levels) w view c x =
    elim (can_round (kind_of w.defs c) || passes_on w c) [
      | false ↦ None
      | true ↦ option_and_then (λ r. chain_from (chain_within levels w view) w view c x r) (round w view c x)
    ]

-- whether the clocks of a chain keep their boundaries in the outcome
abbrev pub keeps_boundaries : Wiring → View → List ChainStep → Bool
keeps_boundaries w view ks =
    list_all (λ k. let r = rate_in (outcome ks w) k.clock in nat_le (view.low k.clock) r && nat_le r (view.high k.clock)) ks

-- the planned chain from a clock to the top, if there is a plan
unfoldable pub chain : Wiring → View → ℕ → ℕ → Option (List ChainStep)
chain w view c x =
    option_and_then (λ ks. if keeps_boundaries w view ks then Some ks else None) (chain_within depth w view c x)
