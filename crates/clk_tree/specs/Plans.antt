-- What the lists of a plan mean.
use Rattle.std.specs.Prelude.{◌≡◌, ℕ, List, true, map, option_map}
use Rattle.std.specs.List.{AllByRecursion}
use Rattle.clk_model.specs.declared.row.ClockRow.{ClockRow}
use Rattle.clk_model.specs.State as state
use Rattle.clk_model.specs.State.{registered}
use Rattle.clk_tree.specs.declared.chain.ChainStep.{ChainStep}
use Rattle.clk_tree.specs.declared.walk_rates.WalkRate.{WalkRate}

-- a step of a chain as the definitions have it
abbrev pub step_of : ChainStep → state.ChainStep
step_of s = record { clock = s.clock.0; rate = s.rate; parent = option_map (λ p. p.0) s.parent }

-- the steps of a chain as the definitions have them
abbrev pub chain_of : List ChainStep → List state.ChainStep
chain_of steps = map step_of steps

-- a clock with a rate
pub record ClockRate : Type 0 where
  pub clock : ℕ
  pub rate : ℕ

-- the clocks of a walk with their rates
abbrev pub rates_of : List WalkRate → List ClockRate
rates_of rates = map (λ w. record { clock = w.clock.0; rate = w.rate }) rates

-- the clocks of these rates are registered
abbrev pub AreThere : List ClockRow → List ClockRate → Type 0
AreThere clocks rates = AllByRecursion (λ r. registered clocks r.clock ≡ true) rates
