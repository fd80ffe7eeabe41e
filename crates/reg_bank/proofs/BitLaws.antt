-- Laws on bits of the registers.
use Rattle.std.proofs.Common.{◌≡◌, ◌≢◌, ℕ, ◌+◌, ◌^◌, ◌<◌, ◌≤◌, refl, ◌∙◌, ap, arith, ◌⊎◌, inl, inr, length, get_or, Bool, true, false, if◌then◌else◌, nat_eq}
use Rattle.std.proofs.lemmas.List.{get_or_past}
use Rattle.std.proofs.lemmas.Grind.{same_number_lists}
use Rattle.std.proofs.lemmas.Bool.{cases_lt}
use Rattle.std.proofs.lemmas.Bool.Decides.{nat_tests}
use Rattle.std.proofs.lemmas.Nat.Bits.{same_from_bits_below, bit_at-lt, bit_at-zero}
use Rattle.std.specs.Int.{bit_at}
use Rattle.std.specs.List.{All}
use Rattle.reg_bank.specs.Registers.{Registers, AreWords, bits_of, field, is_set, put_bit}
use Rattle.reg_bank.proofs.FieldLaws.{length-put, field-put_same, field-put_other_word, field-put_apart, AreWords-put}

digit-lt : (value : Bool) → (if value then 1 else 0) < 2 ^ 1
digit-lt true = omega arith
digit-lt false = omega arith

digit_test : (value : Bool) → nat_eq (if value then 1 else 0) 1 ≡ value
digit_test true = refl
digit_test false = refl

-- two numbers below 2 with the same test are equal
pub same_tested : (a b : ℕ) → a < 2 → b < 2 → nat_eq a 1 ≡ nat_eq b 1 → a ≡ b
same_tested a b small small' same = grind (arith, nat_tests)

-- a put leaves the number of words
pub length-put_bit : (words : Registers) (word bit : ℕ) (value : Bool) → length (put_bit words word bit value) ≡ length words
unfolding put_bit
length-put_bit words word bit value = length-put words word bit 1 (if value then 1 else 0)

-- the bit is what was put
pub is_set-put_bit_same : (words : Registers) (word bit : ℕ) (value : Bool) → word < length words → is_set (put_bit words word bit value) word bit ≡ value
unfolding is_set put_bit
is_set-put_bit_same words word bit value within =
    ap (λ n. nat_eq n 1) (field-put_same words word bit 1 (if value then 1 else 0) within (digit-lt value)) ∙ digit_test value

-- a bit of another word is what it was
pub is_set-put_bit_other_word : (words : Registers) (word bit : ℕ) (value : Bool) (other at : ℕ) → other ≢ word → is_set (put_bit words word bit value) other at ≡ is_set words other at
unfolding is_set put_bit
is_set-put_bit_other_word words word bit value other at apart =
    ap (λ n. nat_eq n 1) (field-put_other_word words word bit 1 (if value then 1 else 0) other at 1 apart)

-- a bit with another number is what it was
pub is_set-put_bit_other_bit : (words : Registers) (word bit : ℕ) (value : Bool) (other at : ℕ) → at ≢ bit → is_set (put_bit words word bit value) other at ≡ is_set words other at
unfolding is_set put_bit
is_set-put_bit_other_bit words word bit value other at apart =
    let sides : (at + 1 ≤ bit) ⊎ (bit + 1 ≤ at) = grind arith in
    ap (λ n. nat_eq n 1) (field-put_apart words word bit 1 (if value then 1 else 0) other at 1 (digit-lt value) sides)

-- a bit at another place is what it was
pub is_set-put_bit_other : (words : Registers) (word bit : ℕ) (value : Bool) (other at : ℕ) → ((other ≢ word) ⊎ (at ≢ bit)) → is_set (put_bit words word bit value) other at ≡ is_set words other at
is_set-put_bit_other words word bit value other at (inl apart) = is_set-put_bit_other_word words word bit value other at apart
is_set-put_bit_other words word bit value other at (inr apart) = is_set-put_bit_other_bit words word bit value other at apart

-- a field without the bit reads what it did
pub field-put_bit_apart : (words : Registers) (word bit : ℕ) (value : Bool) (other at wide : ℕ) → ((at + wide ≤ bit) ⊎ (bit < at)) → field (put_bit words word bit value) other at wide ≡ field words other at wide
unfolding put_bit
field-put_bit_apart words word bit value other at wide apart =
    let sides : (at + wide ≤ bit) ⊎ (bit + 1 ≤ at) = grind arith in
    field-put_apart words word bit 1 (if value then 1 else 0) other at wide (digit-lt value) sides

-- a field of another word reads what it did
pub field-put_bit_other_word : (words : Registers) (word bit : ℕ) (value : Bool) (other at wide : ℕ) → other ≢ word → field (put_bit words word bit value) other at wide ≡ field words other at wide
unfolding put_bit
field-put_bit_other_word words word bit value other at wide apart =
    field-put_other_word words word bit 1 (if value then 1 else 0) other at wide apart

-- words stay words
pub AreWords-put_bit : (words : Registers) (word bit : ℕ) (value : Bool) → bit < 32 → AreWords words → AreWords (put_bit words word bit value)
unfolding put_bit
AreWords-put_bit words word bit value below whole =
    AreWords-put words word bit 1 (if value then 1 else 0) (digit-lt value) (omega arith) whole

-- no bit behind the last word is set
pub is_set_past : (words : Registers) (word bit : ℕ) → length words ≤ word → is_set words word bit ≡ false
unfolding is_set field bits_of
is_set_past words word bit past =
    ap (λ w. nat_eq (bit_at w bit) 1) (get_or_past words word 0 past) ∙ ap (λ n. nat_eq n 1) (bit_at-zero bit)

-- equal tests of a bit are equal bits
same_bit : (xs ys : Registers) (word bit : ℕ) → is_set xs word bit ≡ is_set ys word bit → bit_at (get_or xs word 0) bit ≡ bit_at (get_or ys word 0) bit
unfolding is_set field bits_of
same_bit xs ys word bit same =
    same_tested (bit_at (get_or xs word 0) bit) (bit_at (get_or ys word 0) bit)
    (bit_at-lt (get_or xs word 0) bit) (bit_at-lt (get_or ys word 0) bit) same

-- words with the same bits are the same words
pub same_words : (xs ys : Registers) → length xs ≡ length ys → AreWords xs → AreWords ys → ((word bit : ℕ) → word < length xs → bit < 32 → is_set xs word bit ≡ is_set ys word bit) → xs ≡ ys
same_words xs ys long whole whole' same =
    same_number_lists xs ys long
    (λ word within.
    let within' : word < length ys = omega arith in
    same_from_bits_below 32 (get_or xs word 0) (get_or ys word 0) (whole word 0 within) (whole' word 0 within')
    (λ bit below. same_bit xs ys word bit (same word bit within below)))

-- no bit of words that are all 0 is set
pub is_set_zero : (words : Registers) → All (λ value. value ≡ 0) words → (word bit : ℕ) → is_set words word bit ≡ false
unfolding is_set field bits_of
is_set_zero words zero word bit = elim (cases_lt word (length words)) [
  | inl within ↦ ap (λ w. nat_eq (bit_at w bit) 1) (zero word 0 within) ∙ ap (λ n. nat_eq n 1) (bit_at-zero bit)
  | inr past ↦ is_set_past words word bit past
]
