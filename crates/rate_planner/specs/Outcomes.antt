-- The rates that come out of a chain, from the top down, without writing a register.
use Rattle.std.specs.Prelude.{ℕ, List, [], ◌∷◌, Bool, true, ◌&&◌, nat_le, if◌then◌else◌}
use Rattle.std.specs.Option.{option_map_or}
use Rattle.clk_base.specs.declared.clock.Kind.{Kind}
use Rattle.clk_base.specs.declared.clock.Kind.TheVariants.{Divider, Pll}
use Rattle.clk_base.specs.Description.{kind_of}
use Rattle.kind_math.specs.Rates.{div_rate, pll_rate}
use Rattle.kind_math.specs.Dividers.{div_setting}
use Rattle.kind_math.specs.Plls.{pll_multiplier}
use Rattle.reg_bank.specs.Registers.{Registers}
use Rattle.clk_model.specs.Rate.{style_of, rate_over}
use Rattle.clk_model.specs.Round.{Wiring, View, rate_in}
use Rattle.clk_model.specs.Chain.{moves}
use Rattle.clk_model.specs.State.{ChainStep}

-- the rate of a clock of this kind over its parent's rate, once it is set to a planned rate
abbrev pub set_rate : Kind → Registers → ℕ → ℕ → ℕ
set_rate (Divider word shift width one_based power_of_two) regs parent planned =
    div_rate parent (div_setting parent planned width (style_of one_based power_of_two)) (style_of one_based power_of_two)
set_rate (Pll word shift width power_word power_bit least most m) regs parent planned = pll_rate parent (pll_multiplier parent planned least most m) m
set_rate kind regs parent planned = rate_over kind regs parent

-- the rate that comes out for a clock of a chain over what comes out for its planned parent
abbrev pub out_rate : Wiring → ChainStep → ℕ → ℕ
out_rate w k parent =
    if moves w.clocks k then rate_over (kind_of w.defs k.clock) w.regs parent else set_rate (kind_of w.defs k.clock) w.regs parent k.rate

-- the first of some rates, or this one
abbrev pub first_or : List ℕ → ℕ → ℕ
first_or [] r = r
first_or (q ∷ rs) r = q

-- the rates that come out for the clocks of a chain; the planned parent of the top keeps its rate
abbrev pub out_rates : Wiring → List ChainStep → List ℕ
out_rates w [] = []
out_rates w (k ∷ ks) = out_rate w k (first_or (out_rates w ks) (option_map_or (rate_in w) k.parent 0)) ∷ out_rates w ks

-- whether these rates of the clocks of a chain lie between their boundaries
abbrev pub rates_within : View → List ChainStep → List ℕ → Bool
rates_within view (k ∷ ks) (r ∷ rs) = (nat_le (view.low k.clock) r && nat_le r (view.high k.clock)) && rates_within view ks rs
rates_within view _ _ = true
