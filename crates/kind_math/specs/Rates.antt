-- The rate that each kind of clock makes of its parent's rate. Rates are in hertz.
use Rattle.std.specs.Prelude.{ℕ, ◌+◌, ◌*◌, ◌/◌, ◌^◌, ◌==◌, min, if◌then◌else◌}
use Rattle.std.specs.Int.{div_ceil}
use Rattle.kind_math.specs.declared.div_style.DivStyle.{DivStyle}
use Rattle.kind_math.specs.declared.div_style.DivStyle.TheVariants.{Plain, OneBased, PowerOfTwo}

-- no rate is above the greatest 64-bit number: a greater one counts as this
abbrev pub capped : ℕ → ℕ
capped rate = min rate 18446744073709551615

-- a factor multiplies and divides, and drops the fraction
unfoldable pub factor_rate : ℕ → ℕ → ℕ → ℕ
factor_rate parent mult div = capped (parent * mult / div)

-- the number that a divider's field divides by
unfoldable pub divisor : DivStyle → ℕ → ℕ
divisor Plain field = field + 1
divisor OneBased field = field
divisor PowerOfTwo field = 2 ^ field

-- a rate divided, rounded up; a divisor of 0 leaves it
abbrev pub divided : ℕ → ℕ → ℕ
divided parent d = if d == 0 then parent else div_ceil parent d

-- a divider divides by what its field stands for
unfoldable pub div_rate : ℕ → ℕ → DivStyle → ℕ
div_rate parent field style = divided parent (divisor style field)

-- a PLL multiplies by `n` and divides by `m`, and drops the fraction
unfoldable pub pll_rate : ℕ → ℕ → ℕ → ℕ
pll_rate parent n m = capped (parent * n / m)
