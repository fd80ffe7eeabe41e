-- What std's `parse` says of a word of decimal digits.
use Rattle.std.proofs.Common.{◌≡◌, ℕ, ◌^◌, ◌<◌, ◌≤◌, true, false, List, length, Some, None, Result, rules, arith}
use Rattle.std.specs.Char.{is_ascii_digit}
use Rattle.std.specs.List.{list_all}
use Rattle.std.specs.Result.{OkIff}
use Rattle.std.specs.Str.Parse.{digits_value, ParsesUnsigned}
use Rattle.std.proofs.lemmas.Str.Parse.{IsDigitsTest, IsNumeralModel, numerals_by_value, parse_digits}
use Rattle.std.proofs.lemmas.Bool.Decides.{nat_tests}
use Rattle.bundle_text.specs.Numbers.{number_up_to}

pub tells : IsDigitsTest (λ ds. list_all is_ascii_digit ds ≡ true)
tells = search rules

pub own : IsNumeralModel (λ ds. list_all is_ascii_digit ds ≡ true) (digits_value 10)
own = numerals_by_value _ tells

-- a word of digits is parsed exactly where it isn't empty and its number fits 64 bits
pub OkIff-from_parse : {E : Type 0} (word : List ℕ) (r : Result ℕ E) → ParsesUnsigned 64 10 word r → list_all is_ascii_digit word ≡ true
    → OkIff r ((0 < length word) × (digits_value 10 word < 2 ^ 64)) (digits_value 10 word)
OkIff-from_parse word r h p = parse_digits own 64 word r h p

pub number_up_to-other : (most : ℕ) (word : List ℕ) → list_all is_ascii_digit word ≡ false → number_up_to most word ≡ None
unfolding number_up_to
number_up_to-other most word h = grind (arith, nat_tests)

pub number_up_to-unread : (most : ℕ) (word : List ℕ) → most < 2 ^ 64 → ¬ ((0 < length word) × (digits_value 10 word < 2 ^ 64)) → number_up_to most word ≡ None
unfolding number_up_to
number_up_to-unread most word h p = grind (arith, nat_tests)

pub number_up_to-over : (most number : ℕ) (word : List ℕ) → digits_value 10 word ≡ number → most < number → number_up_to most word ≡ None
unfolding number_up_to
number_up_to-over most number word e h = grind (arith, nat_tests)

pub number_up_to-within : (most number : ℕ) (word : List ℕ) → list_all is_ascii_digit word ≡ true → 0 < length word → digits_value 10 word ≡ number → number ≤ most → number_up_to most word ≡ Some number
unfolding number_up_to
number_up_to-within most number word d some e h = grind (arith, nat_tests)
