-- The divisors of a divider that are left to try.
use Rattle.std.specs.Prelude.{ℕ, ◌-◌, List, map}
use Rattle.std.specs.List.{range_with_len}
use Rattle.kind_math.specs.declared.div_style.DivStyle.{DivStyle}
use Rattle.kind_math.specs.declared.div_style.DivStyle.TheVariants.{Plain, OneBased, PowerOfTwo}
use Rattle.kind_math.specs.Rates.{divisor}

-- the least field that divides
abbrev pub first_field : DivStyle → ℕ
first_field Plain = 0
first_field OneBased = 1
first_field PowerOfTwo = 0

-- what the fields from one on and below an end divide by, rising
abbrev pub divisors_from : DivStyle → ℕ → ℕ → List ℕ
divisors_from style field end = map (divisor style) (range_with_len field (end - field))
