-- Which divisor gives the rate that is closest to a wanted one.
use Rattle.std.specs.Prelude.{ℕ, List, map, min, nat_lt, nat_eq, if◌then◌else◌}
use Rattle.std.specs.Option.{unwrap_or}
use Rattle.std.specs.List.{reduce}
use Rattle.std.specs.Int.{abs_diff, div_ceil}
use Rattle.kind_math.specs.Choices.{least}

-- the one of two rates that is nearer to the wanted one, and the lower one if they are equally near
abbrev pub nearer : ℕ → ℕ → ℕ → ℕ
nearer wanted one other =
    if nat_lt (abs_diff one wanted) (abs_diff other wanted) then one
    else if nat_lt (abs_diff other wanted) (abs_diff one wanted) then other
    else min one other

-- the rate of a list that is nearest to the wanted one, 0 if there is none
unfoldable pub nearest : ℕ → List ℕ → ℕ
nearest wanted rates = unwrap_or (reduce (nearer wanted) rates) 0

-- the rates that divisors make of a parent's rate
abbrev pub rates_by : ℕ → List ℕ → List ℕ
rates_by parent divisors = map (div_ceil parent) divisors

-- the least of the divisors whose rate is the nearest to the wanted one
unfoldable pub closest : ℕ → ℕ → List ℕ → ℕ
closest parent wanted divisors =
    unwrap_or (least (λ d. nat_eq (div_ceil parent d) (nearest wanted (rates_by parent divisors))) divisors) 0
