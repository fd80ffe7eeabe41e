-- The eight hexadecimal digits of a word are the digits of its number behind zeros.
use Rattle.std.proofs.Common.{◌≡◌, ℕ, zero, suc, ◌+◌, ◌-◌, ◌*◌, ◌/◌, ◌%◌, ◌^◌, ◌<◌, Bool, true, false, List, [], ◌∷◌, ◌++◌, length, replicate, refl, sym, ap, ◌∙◌, append_assoc, add-one, append-nil, arith, eqb, cond}
use Rattle.std.proofs.lemmas.Bool.{eqb-true, eqb-false}
use Rattle.std.proofs.lemmas.List.{replicate-append-replicate}
use Rattle.std.proofs.Math.Nat.{pow-succ'}
use Rattle.std.specs.Fmt.{digits, digits_onto, digit_glyph, padded_integral, format_spec, char_count}
use Rattle.clk_model.specs.Text.{hex_digits}

-- so many digits of 0 are zeros
hex_digits-zero : (k : ℕ) → hex_digits k 0 ≡ replicate k 48
hex_digits-zero zero = refl
hex_digits-zero (suc k) = rw (hex_digits-zero k) (replicate-append-replicate k 1 48 ∙ ap (λ m. replicate m 48) (add-one k))

-- what is spelled, behind zeros, is the last digits of n with `behind` after them, one more than k of them
abbrev Spells : ℕ → ℕ → List ℕ → List ℕ → Type 0
Spells k n behind spelled = replicate (suc k + length behind - length spelled) 48 ++ spelled ≡ hex_digits (suc k) n ++ behind

-- one digit more in front of what is behind, and zeros or further digits in front of it
spells_digit : (k n : ℕ) (behind more : List ℕ) (ends : Bool) → eqb (n / 16) 0 ≡ ends → n < 16 ^ suc k
    → ((j : ℕ) → k ≡ suc j → Spells j (n / 16) (digit_glyph false (n % 16) ∷ behind) more)
    → Spells k n behind (cond ends (digit_glyph false (n % 16) ∷ behind) more)
spells_digit k n behind more true e small further =
    let last = digit_glyph false (n % 16) in
    let front : n / 16 ≡ 0 = eqb-true (n / 16) 0 e in
    let zeros : hex_digits k (n / 16) ≡ replicate k 48 = ap (hex_digits k) front ∙ hex_digits-zero k in
    let count : suc k + length behind - suc (length behind) ≡ k = omega arith in
    ap (λ m. replicate m 48 ++ (last ∷ behind)) count ∙ ap (λ z. z ++ (last ∷ behind)) (sym zeros) ∙ sym (append_assoc (hex_digits k (n / 16)) (last ∷ []) behind)
spells_digit zero n behind more false e small further = absurd (omega (arith, eqb-false (n / 16) 0 e))
spells_digit (suc j) n behind more false e small further =
    let last = digit_glyph false (n % 16) in
    let count : suc (suc j) + length behind - length more ≡ suc j + suc (length behind) - length more = omega arith in
    ap (λ m. replicate m 48 ++ more) count ∙ further j refl ∙ sym (append_assoc (hex_digits (suc j) (n / 16)) (last ∷ []) behind)

-- what std spells of a number is its last digits, behind zeros
spells_digits : (k n fuel : ℕ) (behind : List ℕ) → n < 16 ^ suc k → k < fuel → Spells k n behind (digits_onto fuel 16 false n behind)
spells_digits k n zero behind small fueled = absurd (omega arith)
spells_digits k n (suc fuel) behind small fueled =
    spells_digit k n behind (digits_onto fuel 16 false (n / 16) (digit_glyph false (n % 16) ∷ behind)) (eqb (n / 16) 0) refl small
    (λ j is. spells_digits j (n / 16) fuel (digit_glyph false (n % 16) ∷ behind) (let bound : n < 16 * 16 ^ suc j = rw (is, pow-succ') at small in omega arith) (omega arith))

-- std's digits are the last 64 at most
digits-onto : (n : ℕ) → digits 16 false n ≡ digits_onto 64 16 false n []
unfolding digits
digits-onto n = refl

-- what `{:08}` puts in front of a numeral
zero_padded : (numeral : List ℕ) → padded_integral (format_spec 32 0 4 8 (2 ^ 64 - 1)) false [] numeral ≡ replicate (8 - length numeral) 48 ++ numeral
unfolding padded_integral char_count
zero_padded numeral = rw append-nil (ap (λ m. replicate m 48 ++ numeral) {x = 8 - length numeral - 0 - 0} {y = 8 - length numeral} (omega arith))

-- what `{:08x}` writes of a word
pub hex_word : (n : ℕ) → n < 2 ^ 32 → padded_integral (format_spec 32 0 4 8 (2 ^ 64 - 1)) false [] (digits 16 false n) ≡ hex_digits 8 n
hex_word n small =
    zero_padded (digits 16 false n)
    ∙ ap (λ numeral. replicate (8 - length numeral) 48 ++ numeral) (digits-onto n)
    ∙ spells_digits 7 n 64 [] (omega arith) (omega arith)
    ∙ append-nil (hex_digits 8 n)
