-- The formulas computed on small numbers.
use Rattle.std.specs.Prelude.{◌≡◌, [], ◌∷◌, List, true, false, refl}
use Rattle.kind_math.specs.declared.table_row.TableRow.{TableRow}
use Rattle.kind_math.specs.declared.div_style.DivStyle.TheVariants.{Plain, OneBased, PowerOfTwo}
use Rattle.kind_math.specs.Rates.{factor_rate, divisor, div_rate, pll_rate}
use Rattle.kind_math.specs.Choices.{least, greatest, greatest_of}
use Rattle.kind_math.specs.Closest.{nearest, closest}
use Rattle.kind_math.specs.Dividers.{valid_fields, valid_divisors, least_or_greatest, div_round, div_round_closest, div_setting}
use Rattle.kind_math.specs.Tables.{divisor_of, value_of, table_rate, table_round, planned_divisor, table_setting}
use Rattle.kind_math.specs.Plls.{pll_multiplier}

-- three halves of the greatest rate are the greatest rate
pub factor_is_capped : factor_rate 18446744073709551615 3 2 ≡ 18446744073709551615
unfolding factor_rate
factor_is_capped = refl

-- a divider rounds up
pub eighth_of_hundred : div_rate 100 7 Plain ≡ 13
unfolding div_rate divisor
eighth_of_hundred = refl

-- a one-based field of 0 divides by nothing
pub zero_divides_by_nothing : div_rate 100 0 OneBased ≡ 100
unfolding div_rate divisor
zero_divides_by_nothing = refl

-- a field of two bits divides by the powers of two up to 8
pub powers_to_eight : valid_divisors PowerOfTwo 2 ≡ 1 ∷ 2 ∷ 4 ∷ 8 ∷ []
unfolding valid_divisors valid_fields divisor
powers_to_eight = refl

-- for 30 of 100 the divisor 4 is taken, which gives 25
pub divisor_for_thirty : div_round 100 30 3 Plain ≡ 4
unfolding div_round least_or_greatest least greatest_of valid_divisors valid_fields divisor
divisor_for_thirty = refl

-- for 0 of 100 it is the greatest, 8
pub divisor_for_zero : div_round 100 0 3 Plain ≡ 8
unfolding div_round least_or_greatest least greatest_of valid_divisors valid_fields divisor
divisor_for_zero = refl

-- for 2 of 10 among powers of two it is 8, and its field 3
pub divisor_for_two : div_round 10 2 2 PowerOfTwo ≡ 8
unfolding div_round least_or_greatest least greatest_of valid_divisors valid_fields divisor
divisor_for_two = refl

pub field_for_two : div_setting 10 2 2 PowerOfTwo ≡ 3
unfolding div_setting least_or_greatest least greatest_of valid_fields div_rate divisor
field_for_two = refl

-- 24 MHz times 100 over 24 is 100 MHz
pub pll_of_hundred : pll_rate 24000000 100 24 ≡ 100000000
unfolding pll_rate
pll_of_hundred = refl

-- a PLL over 10 with multipliers 3 to 7 gives at most 45 with 4
pub multiplier_for_forty_five : pll_multiplier 10 45 3 7 1 ≡ 4
unfolding pll_multiplier greatest pll_rate
multiplier_for_forty_five = refl

-- and where even the least is too much, the least
pub multiplier_for_nine : pll_multiplier 10 9 3 7 1 ≡ 3
unfolding pll_multiplier greatest pll_rate
multiplier_for_nine = refl

-- for 30 of 100 the closest is 34, by 3; for 42 too, since 50 is as near and higher
pub closest_to_thirty : div_round_closest 100 30 3 Plain ≡ 3
unfolding div_round_closest closest nearest least valid_divisors valid_fields divisor
closest_to_thirty = refl

pub closest_to_forty_two : div_round_closest 100 42 3 Plain ≡ 3
unfolding div_round_closest closest nearest least valid_divisors valid_fields divisor
closest_to_forty_two = refl

-- over a parent of 0 it is the least
pub closest_over_nothing : div_round_closest 0 50 3 Plain ≡ 1
unfolding div_round_closest closest nearest least valid_divisors valid_fields divisor
closest_over_nothing = refl

-- a table in which 0 divides by 1, 1 by 4 and 3 by 10
abbrev pub three_rows : List TableRow
three_rows = record { value = 0; div = 1 } ∷ record { value = 1; div = 4 } ∷ record { value = 3; div = 10 } ∷ []

-- its 1 divides by 4; 2, which it lacks, leaves the parent's rate
pub quarter_of_hundred : table_rate 100 1 three_rows ≡ 25
unfolding table_rate divisor_of
quarter_of_hundred = refl

pub missing_leaves : table_rate 100 2 three_rows ≡ 100
unfolding table_rate divisor_of
missing_leaves = refl

-- for 17 of 100 it takes 10, which gives 10, and so does the closest, since 25 is farther
pub row_for_seventeen : table_round 100 17 three_rows false ≡ 10
unfolding table_round least_or_greatest least greatest_of
row_for_seventeen = refl

pub closest_to_seventeen : table_round 100 17 three_rows true ≡ 10
unfolding table_round closest nearest least
closest_to_seventeen = refl

-- for 18 the closest is 25
pub closest_to_eighteen : table_round 100 18 three_rows true ≡ 4
unfolding table_round closest nearest least
closest_to_eighteen = refl

-- 5 is below each rate that it gives, so it is set to 3, which gives the least
pub value_for_five : table_setting 100 5 three_rows ≡ 3
unfolding table_setting planned_divisor value_of least_or_greatest least greatest_of
value_for_five = refl
