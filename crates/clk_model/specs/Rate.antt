-- The rate that the registers give.
use Rattle.std.specs.Prelude.{ℕ, zero, suc, List, Bool, true, false}
use Rattle.std.specs.Option.{option_map_or}
use Rattle.clk_base.specs.declared.clock.Kind.{Kind}
use Rattle.clk_base.specs.declared.clock.Kind.TheVariants as kinds
use Rattle.clk_base.specs.Description.{Description, kind_of}
use Rattle.clk_base.specs.Levels.{depth}
use Rattle.reg_bank.specs.Registers.{Registers, field}
use Rattle.kind_math.specs.declared.div_style.DivStyle.{DivStyle}
use Rattle.kind_math.specs.declared.div_style.DivStyle.TheVariants.{Plain, OneBased, PowerOfTwo}
use Rattle.kind_math.specs.Rates.{factor_rate, div_rate, pll_rate}
use Rattle.clk_model.specs.declared.row.ClockRow.{ClockRow}
use Rattle.clk_model.specs.State.{link_in}

-- how the field of a divider gives its divisor
abbrev pub style_of : Bool → Bool → DivStyle
style_of one_based true = PowerOfTwo
style_of true false = OneBased
style_of false false = Plain

-- the rate of a clock of this kind over its parent's rate
abbrev pub rate_over : Kind → Registers → ℕ → ℕ
rate_over (kinds.FixedRate rate) regs parent = rate
rate_over (kinds.Factor mult div) regs parent = factor_rate parent mult div
rate_over (kinds.Gate word bit set_to_disable) regs parent = parent
rate_over (kinds.Mux word shift width read_only) regs parent = parent
rate_over (kinds.Divider word shift width one_based power_of_two) regs parent =
    div_rate parent (field regs word shift width) (style_of one_based power_of_two)
rate_over (kinds.Pll word shift width power_word power_bit least most m) regs parent = pll_rate parent (field regs word shift width) m

-- the rate of a clock over at most so many levels
abbrev pub rate_within : Description → Registers → List ClockRow → ℕ → ℕ → ℕ
rate_within defs regs clocks zero c = 0
rate_within defs regs clocks (suc levels) c =
    rate_over (kind_of defs c) regs (option_map_or (rate_within defs regs clocks levels) (link_in clocks c) 0)

-- the rate of a clock by its kind, the registers and the rate of the parent that it is attached to, which is 0 for an orphan
unfoldable pub rate : Description → Registers → List ClockRow → ℕ → ℕ
rate defs regs clocks c = rate_within defs regs clocks depth c
