-- What std's `from_str_radix` says of a word of hexadecimal digits.
use Rattle.std.proofs.Common.{◌≡◌, ℕ, zero, suc, ◌^◌, ◌<◌, ◌≤◌, true, false, List, [], ◌∷◌, length, slice_index, Some, None, Result, Ok, Err, rules, arith, refl, tests}
use Rattle.std.specs.Char.{is_ascii_hexdigit, digit_value}
use Rattle.std.specs.List.{list_all}
use Rattle.std.specs.Result.{OkIff}
use Rattle.std.specs.Str.Parse.{digits_value, AllDigits, IsNumeral, ParsesUnsigned, without_leading_plus}
use Rattle.std.specs.Str.{IsAscii, IsUtf8}
use Rattle.std.proofs.lemmas.Bool.Decides.{nat_tests}
use Rattle.std.proofs.lemmas.Str.{IsUtf8-from_ascii}
use Rattle.bundle_text.specs.Numbers.{hexadecimal_up_to}

hexadecimal_digit : (c : ℕ) → is_ascii_hexdigit c ≡ true → digit_value c < 16
hexadecimal_digit c h = grind (arith, nat_tests)

-- each hexadecimal digit is one in base 16
pub AllDigits-hexadecimal : (digits : List ℕ) → list_all is_ascii_hexdigit digits ≡ true → AllDigits 16 digits
AllDigits-hexadecimal [] h = search rules
AllDigits-hexadecimal (c ∷ cs) h =
    let first : is_ascii_hexdigit c ≡ true = search (rules, tests, h) in
    let rest : list_all is_ascii_hexdigit cs ≡ true = search (rules, tests, h) in
    (hexadecimal_digit c first, AllDigits-hexadecimal cs rest)

-- a text of hexadecimal digits doesn't begin with a plus
pub without_leading_plus-hexadecimal : (digits : List ℕ) → list_all is_ascii_hexdigit digits ≡ true → without_leading_plus digits ≡ digits
without_leading_plus-hexadecimal [] h = refl
without_leading_plus-hexadecimal (c ∷ cs) h = grind (arith, nat_tests)

-- what a part of a test that is known leaves of it
numeral-known : {E : Type 0} (r : Result ℕ E) (A B D : Type 0) (value : ℕ) → OkIff r ((A × D) × B) value → D → OkIff r (A × B) value
numeral-known (Ok x) A B D value h d = ((h.0.0.0, h.0.1), h.1)
numeral-known (Err e) A B D value h d = λ p. h ((p.0, d), p.1)

ascii-at : (c : ℕ) (cs : List ℕ) (i : ℕ) → c < 128 → IsAscii cs → slice_index (c ∷ cs) i < 128
ascii-at c cs zero h k = h
ascii-at c cs (suc i) h k = k i

-- a text of hexadecimal digits is parsed exactly where it isn't empty and its number fits 64 bits
pub OkIff-from_hexadecimal : {E : Type 0} (digits : List ℕ) (r : Result ℕ E) → ParsesUnsigned 64 16 digits r → list_all is_ascii_hexdigit digits ≡ true
    → OkIff r ((0 < length digits) × (digits_value 16 digits < 2 ^ 64)) (digits_value 16 digits)
OkIff-from_hexadecimal digits r h p =
    let plain : ParsesUnsigned 64 16 digits r → OkIff r (IsNumeral 16 digits × (digits_value 16 digits < 2 ^ 64)) (digits_value 16 digits) = λ k. rw (without_leading_plus-hexadecimal digits p) at k in
    numeral-known r _ _ _ _ (plain h) (AllDigits-hexadecimal digits p)

-- a text of hexadecimal digits is UTF-8
ascii-hexadecimal : (digits : List ℕ) → list_all is_ascii_hexdigit digits ≡ true → IsAscii digits
ascii-hexadecimal [] h = λ i. omega arith
ascii-hexadecimal (c ∷ cs) h =
    let first : is_ascii_hexdigit c ≡ true = search (rules, tests, h) in
    let rest : list_all is_ascii_hexdigit cs ≡ true = search (rules, tests, h) in
    λ i. ascii-at c cs i (grind (arith, nat_tests)) (ascii-hexadecimal cs rest)

pub IsUtf8-hexadecimal : (digits : List ℕ) → list_all is_ascii_hexdigit digits ≡ true → IsUtf8 digits
IsUtf8-hexadecimal digits h = IsUtf8-from_ascii digits (ascii-hexadecimal digits h)

pub hexadecimal_up_to-other : (most : ℕ) (digits : List ℕ) → list_all is_ascii_hexdigit digits ≡ false → hexadecimal_up_to most digits ≡ None
unfolding hexadecimal_up_to
hexadecimal_up_to-other most digits h = grind (arith, nat_tests)

pub hexadecimal_up_to-unread : (most : ℕ) (digits : List ℕ) → most < 2 ^ 64 → ¬ ((0 < length digits) × (digits_value 16 digits < 2 ^ 64)) → hexadecimal_up_to most digits ≡ None
unfolding hexadecimal_up_to
hexadecimal_up_to-unread most digits h p = grind (arith, nat_tests)

pub hexadecimal_up_to-over : (most number : ℕ) (digits : List ℕ) → digits_value 16 digits ≡ number → most < number → hexadecimal_up_to most digits ≡ None
unfolding hexadecimal_up_to
hexadecimal_up_to-over most number digits e h = grind (arith, nat_tests)

pub hexadecimal_up_to-within : (most number : ℕ) (digits : List ℕ) → list_all is_ascii_hexdigit digits ≡ true → 0 < length digits → digits_value 16 digits ≡ number → number ≤ most → hexadecimal_up_to most digits ≡ Some number
unfolding hexadecimal_up_to
hexadecimal_up_to-within most number digits d some e h = grind (arith, nat_tests)
