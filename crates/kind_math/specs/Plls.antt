-- Which multiplier a PLL takes for a rate.
use Rattle.std.specs.Prelude.{ℕ, ◌+◌, ◌-◌, List, nat_le}
use Rattle.std.specs.Option.{unwrap_or}
use Rattle.std.specs.List.{range_with_len}
use Rattle.kind_math.specs.Rates.{pll_rate}
use Rattle.kind_math.specs.Choices.{greatest}

-- the multipliers from `low` to `high`, rising
abbrev pub multipliers : ℕ → ℕ → List ℕ
multipliers low high = range_with_len low (high + 1 - low)

-- the multiplier for a rate: the greatest of the range whose rate isn't above it, or else the least of the range
unfoldable pub pll_multiplier : ℕ → ℕ → ℕ → ℕ → ℕ → ℕ
pll_multiplier parent rate low high m =
    unwrap_or (greatest (λ n. nat_le (pll_rate parent n m) rate) (multipliers low high)) low
