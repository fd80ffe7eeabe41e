-- Fields of one number, bit by bit.
use Rattle.std.proofs.Common.{◌≡◌, ℕ, ◌+◌, ◌-◌, ◌*◌, ◌/◌, ◌%◌, ◌^◌, ◌<◌, ◌≤◌, sym, ◌∙◌, ap, subst, arith, ◌⊎◌, inl, inr}
use Rattle.std.proofs.lemmas.Nat.{pow_pos, pow-add, shr-shr, shr_split, mod_below, shr_below, mul-add-lt}
use Rattle.std.proofs.lemmas.Nat.Bits.{same_from_bits_below, bit_at_cat_low, bit_at_cat_high}
use Rattle.std.specs.Int.{bit_at}
use Rattle.reg_bank.specs.Registers.{bits_of, with_bits}

-- bit i of a shifted number
pub bit_at-shr : (n s i : ℕ) → bit_at (n / 2 ^ s) i ≡ bit_at n (s + i)
bit_at-shr n s i = ap (λ x. x % 2) (shr-shr n s i)

-- a low part keeps its bits
pub bit_at-low : (n k i : ℕ) → i < k → bit_at (n % 2 ^ k) i ≡ bit_at n i
bit_at-low n k i below =
    sym (bit_at_cat_low (n / 2 ^ k) k (n % 2 ^ k) i below) ∙ ap (λ x. bit_at x i) (shr_split n k)

-- a field fits its width
pub bits_of-lt : (value shift width : ℕ) → bits_of value shift width < 2 ^ width
unfolding bits_of
bits_of-lt value shift width = mod_below (value / 2 ^ shift) (2 ^ width) (pow_pos width)

-- bit i of a field is bit `shift + i` of the word
pub bit_at-bits_of : (value shift width i : ℕ) → i < width → bit_at (bits_of value shift width) i ≡ bit_at value (shift + i)
unfolding bits_of
bit_at-bits_of value shift width i below = bit_at-low (value / 2 ^ shift) width i below ∙ bit_at-shr value shift i

-- below the field the bits stay
pub bit_at-with_bits_below : (value shift width new i : ℕ) → i < shift → bit_at (with_bits value shift width new) i ≡ bit_at value i
unfolding with_bits
bit_at-with_bits_below value shift width new i below =
    bit_at_cat_low (value / 2 ^ (shift + width) * 2 ^ width + new) shift (value % 2 ^ shift) i below
    ∙ bit_at-low value shift i below

-- in the field they are those of the new number
pub bit_at-with_bits_inside : (value shift width new i : ℕ) → new < 2 ^ width → shift ≤ i → i < shift + width → bit_at (with_bits value shift width new) i ≡ bit_at new (i - shift)
unfolding with_bits
bit_at-with_bits_inside value shift width new i fits from below =
    bit_at_cat_high (value / 2 ^ (shift + width) * 2 ^ width + new) shift (value % 2 ^ shift) i (mod_below value (2 ^ shift) (pow_pos shift)) from
    ∙ bit_at_cat_low (value / 2 ^ (shift + width)) width new (i - shift) (omega arith)

-- above it they stay
pub bit_at-with_bits_above : (value shift width new i : ℕ) → new < 2 ^ width → shift + width ≤ i → bit_at (with_bits value shift width new) i ≡ bit_at value i
unfolding with_bits
bit_at-with_bits_above value shift width new i fits above =
    let place : shift + width + (i - shift - width) ≡ i = omega arith in
    bit_at_cat_high (value / 2 ^ (shift + width) * 2 ^ width + new) shift (value % 2 ^ shift) i (mod_below value (2 ^ shift) (pow_pos shift)) (omega arith)
    ∙ bit_at_cat_high (value / 2 ^ (shift + width)) width new (i - shift) fits (omega arith)
    ∙ bit_at-shr value (shift + width) (i - shift - width)
    ∙ ap (bit_at value) place

-- the field reads what was put
pub bits_of-with_bits_same : (value shift width new : ℕ) → new < 2 ^ width → bits_of (with_bits value shift width new) shift width ≡ new
bits_of-with_bits_same value shift width new fits =
    same_from_bits_below width (bits_of (with_bits value shift width new) shift width) new
    (bits_of-lt (with_bits value shift width new) shift width) fits
    (λ i below.
    let place : shift + i - shift ≡ i = omega arith in
    bit_at-bits_of (with_bits value shift width new) shift width i below
    ∙ bit_at-with_bits_inside value shift width new (shift + i) fits (omega arith) (omega arith)
    ∙ ap (bit_at new) place)

-- a field before or behind it reads what it did
pub bits_of-with_bits_apart : (value shift width new at wide : ℕ) → new < 2 ^ width → ((at + wide ≤ shift) ⊎ (shift + width ≤ at)) → bits_of (with_bits value shift width new) at wide ≡ bits_of value at wide
bits_of-with_bits_apart value shift width new at wide fits apart =
    same_from_bits_below wide (bits_of (with_bits value shift width new) at wide) (bits_of value at wide)
    (bits_of-lt (with_bits value shift width new) at wide) (bits_of-lt value at wide)
    (λ i below.
    bit_at-bits_of (with_bits value shift width new) at wide i below
    ∙ bit_kept i below
    ∙ sym (bit_at-bits_of value at wide i below))
  where
    bit_kept : (i : ℕ) → i < wide → bit_at (with_bits value shift width new) (at + i) ≡ bit_at value (at + i)
    bit_kept i below = elim apart [
      | inl before ↦ bit_at-with_bits_below value shift width new (at + i) (omega arith)
      | inr behind ↦ bit_at-with_bits_above value shift width new (at + i) fits (omega arith)
    ]

-- a word stays a word
pub with_bits-lt : (value shift width new size : ℕ) → value < 2 ^ size → new < 2 ^ width → shift + width ≤ size → with_bits value shift width new < 2 ^ size
unfolding with_bits
with_bits-lt value shift width new size fits small inside =
    let above = size - (shift + width) in
    let whole : size ≡ above + (shift + width) = omega arith in
    let split : shift + (width + above) ≡ size = omega arith in
    let high = shr_below value above (shift + width) (subst (λ k. value < 2 ^ k) whole fits) in
    let middle = subst (λ n. value / 2 ^ (shift + width) * 2 ^ width + new < n) (sym (pow-add 2 width above))
    (mul-add-lt (value / 2 ^ (shift + width)) (2 ^ width) new (2 ^ above) high small) in
    let all = mul-add-lt (value / 2 ^ (shift + width) * 2 ^ width + new) (2 ^ shift) (value % 2 ^ shift)
    (2 ^ (width + above)) middle (mod_below value (2 ^ shift) (pow_pos shift)) in
    subst (λ n. (value / 2 ^ (shift + width) * 2 ^ width + new) * 2 ^ shift + value % 2 ^ shift < n)
    (sym (pow-add 2 shift (width + above)) ∙ ap (λ k. 2 ^ k) split) all
