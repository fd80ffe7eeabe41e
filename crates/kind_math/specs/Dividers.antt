-- Which divisor a divider takes for a rate.
use Rattle.std.specs.Prelude.{ℕ, ◌-◌, ◌^◌, ◌≤◌, Bool, List, map, max, nat_le}
use Rattle.std.specs.Option.{unwrap_or}
use Rattle.std.specs.List.{range_with_len}
use Rattle.std.specs.Int.{div_ceil}
use Rattle.kind_math.specs.declared.div_style.DivStyle.{DivStyle}
use Rattle.kind_math.specs.declared.div_style.DivStyle.TheVariants.{Plain, OneBased, PowerOfTwo}
use Rattle.kind_math.specs.Rates.{divisor, div_rate}
use Rattle.kind_math.specs.Choices.{least, greatest_of}
use Rattle.kind_math.specs.Closest.{closest}

-- the width that a divider's field may have: 1 to 16 bits, and at most 5 where it is an exponent
abbrev pub IsDividerWidth : DivStyle → ℕ → Type 0
IsDividerWidth Plain width = (1 ≤ width) × (width ≤ 16)
IsDividerWidth OneBased width = (1 ≤ width) × (width ≤ 16)
IsDividerWidth PowerOfTwo width = (1 ≤ width) × (width ≤ 5)

-- the numbers that a field of this width can hold and that divide, rising; a one-based field of 0 divides by nothing
unfoldable pub valid_fields : DivStyle → ℕ → List ℕ
valid_fields Plain width = range_with_len 0 (2 ^ width)
valid_fields OneBased width = range_with_len 1 (2 ^ width - 1)
valid_fields PowerOfTwo width = range_with_len 0 (2 ^ width)

-- the first of them
abbrev pub first_field : DivStyle → ℕ
first_field Plain = 0
first_field OneBased = 1
first_field PowerOfTwo = 0

-- what they divide by, rising
unfoldable pub valid_divisors : DivStyle → ℕ → List ℕ
valid_divisors style width = map (divisor style) (valid_fields style width)

-- the number that passes and is least, or else the greatest of all
unfoldable pub least_or_greatest : (ℕ → Bool) → List ℕ → ℕ
least_or_greatest passes numbers = unwrap_or (least passes numbers) (greatest_of numbers)

-- the divisor for a wanted rate: the least valid one that is at least `parent / rate` rounded up, or else
-- the greatest valid one; a wanted rate of 0 counts as 1
unfoldable pub div_round : ℕ → ℕ → ℕ → DivStyle → ℕ
div_round parent rate width style =
    least_or_greatest (λ d. nat_le (div_ceil parent (max rate 1)) d) (valid_divisors style width)

-- the divisor for a wanted rate if a divider rounds to the closest; a wanted rate of 0 counts as 1
unfoldable pub div_round_closest : ℕ → ℕ → ℕ → DivStyle → ℕ
div_round_closest parent rate width style = closest parent (max rate 1) (valid_divisors style width)

-- the field that sets a planned rate: that of the least valid divisor whose rate isn't above it, or else of
-- the greatest valid one; a greater field divides by more
unfoldable pub div_setting : ℕ → ℕ → ℕ → DivStyle → ℕ
div_setting parent rate width style =
    least_or_greatest (λ field. nat_le (div_rate parent field style) rate) (valid_fields style width)
