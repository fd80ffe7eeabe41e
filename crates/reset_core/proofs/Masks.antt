-- What the masks of the code do to one bit of a word.
use Rattle.std.proofs.Common.{◌≡◌, ◌≢◌, ℕ, ◌+◌, ◌-◌, ◌*◌, ◌/◌, ◌%◌, ◌^◌, ◌<◌, ◌≤◌, sym, ◌∙◌, ap, subst, arith, ◌⊎◌, inl, inr, bit_and, bit_or, nat_eq, w32}
use Rattle.std.proofs.lemmas.Nat.{or_lt, and_le_l, one_shl, pow_below}
use Rattle.std.proofs.lemmas.Nat.Bits.{same_from_bits_below, shr_and_one, bit_at_set_same, bit_at_set_other, bit_at_clear_same, bit_at_clear_other}
use Rattle.std.proofs.lemmas.Bool.{cases_eq}
use Rattle.std.specs.Int.{bit_at, bit_not}
use Rattle.reg_bank.specs.Registers.{bits_of, with_bits}
use Rattle.reg_bank.proofs.NumberLaws.{bit_at-with_bits_below, bit_at-with_bits_inside, bit_at-with_bits_above, with_bits-lt}

-- the test `value >> bit & 1`
pub tested_bit : (value bit : ℕ) → nat_eq (bit_and (value / 2 ^ bit) 1) 1 ≡ nat_eq (bits_of value bit 1) 1
unfolding bits_of
tested_bit value bit = ap (λ n. nat_eq n 1) (shr_and_one value bit)

-- a number with one bit replaced has that digit there
bit_at-with_bit_same : (value bit digit : ℕ) → digit < 2 → bit_at (with_bits value bit 1 digit) bit ≡ digit
bit_at-with_bit_same value bit digit small =
    let here : bit - bit ≡ 0 = omega arith in
    let alone : digit / 1 % 2 ≡ digit = omega arith in
    bit_at-with_bits_inside value bit 1 digit bit small (omega arith) (omega arith)
    ∙ ap (bit_at digit) here ∙ alone

-- and its own bits elsewhere
bit_at-with_bit_other : (value bit digit i : ℕ) → digit < 2 → i ≢ bit → bit_at (with_bits value bit 1 digit) i ≡ bit_at value i
bit_at-with_bit_other value bit digit i small apart =
    let sides : (i < bit) ⊎ (bit + 1 ≤ i) = grind arith in
    elim sides [
      | inl below ↦ bit_at-with_bits_below value bit 1 digit i below
      | inr above ↦ bit_at-with_bits_above value bit 1 digit i small above
    ]

-- numbers of 32 bits that agree at each bit with the number that has one bit replaced
replaced : (value bit digit other : ℕ) → value < 2 ^ 32 → bit < 32 → digit < 2 → other < 2 ^ 32 → bit_at other bit ≡ digit → ((i : ℕ) → i < 32 → i ≢ bit → bit_at other i ≡ bit_at value i) → other ≡ with_bits value bit 1 digit
replaced value bit digit other fits below small fits' here elsewhere =
    same_from_bits_below 32 other (with_bits value bit 1 digit) fits' (with_bits-lt value bit 1 digit 32 fits small (omega arith))
    (λ i in_word. elim (cases_eq i bit) [
      | inl same ↦ ap (bit_at other) same ∙ here ∙ sym (ap (bit_at (with_bits value bit 1 digit)) same ∙ bit_at-with_bit_same value bit digit small)
      | inr apart ↦ elsewhere i in_word apart ∙ sym (bit_at-with_bit_other value bit digit i small apart)
    ])

-- `value | 1 << bit`
pub set_by_mask : (value bit : ℕ) → value < 2 ^ 32 → bit < 32 → bit_or value (1 * 2 ^ bit % 2 ^ 32) ≡ with_bits value bit 1 1
set_by_mask value bit fits below =
    replaced value bit 1 (bit_or value (1 * 2 ^ bit % 2 ^ 32)) fits below (omega arith)
    (or_lt 32 value (1 * 2 ^ bit % 2 ^ 32) fits (subst (λ n. n < 2 ^ 32) (sym (one_shl bit 32 below)) (pow_below bit 32 below)))
    (bit_at_set_same w32 value bit below)
    (λ i in_word apart. bit_at_set_other w32 value bit below i apart)

-- `value & !(1 << bit)`
pub clear_by_mask : (value bit : ℕ) → value < 2 ^ 32 → bit < 32 → bit_and value (bit_not w32 (1 * 2 ^ bit % 2 ^ 32)) ≡ with_bits value bit 1 0
clear_by_mask value bit fits below =
    let kept = and_le_l value (bit_not w32 (1 * 2 ^ bit % 2 ^ 32)) in
    replaced value bit 0 (bit_and value (bit_not w32 (1 * 2 ^ bit % 2 ^ 32))) fits below (omega arith)
    (omega (arith, kept))
    (bit_at_clear_same w32 value bit below)
    (λ i in_word apart. bit_at_clear_other w32 value bit below i in_word apart)
