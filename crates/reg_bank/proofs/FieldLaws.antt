-- Laws on fields of the registers.
use Rattle.std.proofs.Common.{◌≡◌, ◌≢◌, ℕ, ◌+◌, ◌^◌, ◌<◌, ◌≤◌, sym, ◌∙◌, ap, subst, ◌⊎◌, inl, inr, length, get_or, set}
use Rattle.std.proofs.lemmas.List.{length-set, get_or-set_other, get_or-set_same, set_past}
use Rattle.std.proofs.lemmas.List.Elements.{All-set}
use Rattle.std.proofs.lemmas.Bool.{cases_eq, cases_lt}
use Rattle.reg_bank.specs.Registers.{Registers, AreWords, bits_of, with_bits, field, put}
use Rattle.reg_bank.proofs.NumberLaws.{bits_of-with_bits_same, bits_of-with_bits_apart, with_bits-lt}

-- a put leaves the number of words
pub length-put : (words : Registers) (word shift width value : ℕ) → length (put words word shift width value) ≡ length words
unfolding put
length-put words word shift width value = length-set words word (with_bits (get_or words word 0) shift width value)

-- the field reads what was put
pub field-put_same : (words : Registers) (word shift width value : ℕ) → word < length words → value < 2 ^ width → field (put words word shift width value) word shift width ≡ value
unfolding field put
field-put_same words word shift width value within fits =
    ap (λ w. bits_of w shift width) (get_or-set_same words word (with_bits (get_or words word 0) shift width value) 0 within)
    ∙ bits_of-with_bits_same (get_or words word 0) shift width value fits

-- a field of another word reads what it did
pub field-put_other_word : (words : Registers) (word shift width value other at wide : ℕ) → other ≢ word → field (put words word shift width value) other at wide ≡ field words other at wide
unfolding field put
field-put_other_word words word shift width value other at wide apart =
    ap (λ w. bits_of w at wide) (get_or-set_other words word other (with_bits (get_or words word 0) shift width value) 0 apart)

-- a field that lies before or behind it in its word, or in another word, reads what it did
pub field-put_apart : (words : Registers) (word shift width value other at wide : ℕ) → value < 2 ^ width → ((at + wide ≤ shift) ⊎ (shift + width ≤ at)) → field (put words word shift width value) other at wide ≡ field words other at wide
unfolding field put
field-put_apart words word shift width value other at wide fits apart =
    elim (cases_eq other word) [
      | inr differs ↦ field-put_other_word words word shift width value other at wide differs
      | inl same ↦ elim (cases_lt word (length words)) [
        | inl within ↦ subst (λ w. bits_of (get_or (set words word (with_bits (get_or words word 0) shift width value)) w 0) at wide ≡ bits_of (get_or words w 0) at wide) (sym same)
            (ap (λ w. bits_of w at wide) (get_or-set_same words word (with_bits (get_or words word 0) shift width value) 0 within)
            ∙ bits_of-with_bits_apart (get_or words word 0) shift width value at wide fits apart)
        | inr past ↦ ap (λ ws. bits_of (get_or ws other 0) at wide) (set_past words word (with_bits (get_or words word 0) shift width value) past)
      ]
    ]

-- a put in a field of 32 bits keeps words
pub AreWords-put : (words : Registers) (word shift width value : ℕ) → value < 2 ^ width → shift + width ≤ 32 → AreWords words → AreWords (put words word shift width value)
unfolding put
AreWords-put words word shift width value fits inside whole =
    elim (cases_lt word (length words)) [
      | inl within ↦ All-set (λ w. w < 2 ^ 32) words word (with_bits (get_or words word 0) shift width value)
          (with_bits-lt (get_or words word 0) shift width value 32 (whole word 0 within) fits inside) whole
      | inr past ↦ subst AreWords (sym (set_past words word (with_bits (get_or words word 0) shift width value) past)) whole
    ]
