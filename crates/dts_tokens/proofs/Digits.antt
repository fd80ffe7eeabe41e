-- The value of digits only grows.
use Rattle.std.proofs.Common.{◌≡◌, ℕ, ◌+◌, ◌*◌, ◌<◌, ◌≤◌, List, [], ◌∷◌, length, drop, get_or, arith, refl, Bool, true, false, ◌&&◌, nat_le, Some, None, if◌then◌else◌}
use Rattle.std.proofs.Math.Nat.{mul-le-mul_left}
use Rattle.std.proofs.lemmas.Bool.Decides.{nat_tests}
use Rattle.std.proofs.lemmas.List.{at_drop_more}
use Rattle.std.specs.Char.{digit_value}
use Rattle.std.specs.Str.Parse.{digits_value, digits_value_after}

-- more digits make no number smaller
pub digits_value_after-ge : (base n : ℕ) (digits : List ℕ) → 1 ≤ base → n ≤ digits_value_after base n digits
digits_value_after-ge base n [] h = omega arith
digits_value_after-ge base n (c ∷ cs) h = omega (arith, mul-le-mul_left n h, digits_value_after-ge base (n * base + digit_value c) cs h)

-- one digit more that makes the number too big
pub digits_value-over : (base value digit most i : ℕ) (digits : List ℕ) → 2 ≤ base → i < length digits → digits_value_after base value (drop i digits) ≡ digits_value base digits
    → digit ≡ digit_value (get_or digits i 0) → most < value * base + digit → most < digits_value base digits
digits_value-over base value digit most i digits b low was d over =
    let step = at_drop_more (digits_value_after base value) digits i 0 low in
    let grown = digits_value_after-ge base (value * base + digit_value (get_or digits i 0)) (drop (i + 1) digits) (omega arith) in
    omega (arith, was, step, grown, d, over)

-- a number above the most is none
pub number-over : (all : Bool) (value most : ℕ) → most < value → None ≡ (if all && nat_le value most then Some value else None)
number-over true value most h = grind (arith, nat_tests)
number-over false value most h = refl
