-- Laws on what is put into registers that are the same without their gates: they stay so.
use Rattle.std.proofs.Common.{◌≡◌, ◌≢◌, ℕ, ◌+◌, ◌-◌, ◌^◌, ◌<◌, ◌≤◌, Bool, true, false, cond, sym, ap, subst, ◌∙◌, ◌⊎◌, inl, inr, arith, length, nat_eq, get_or}
use Rattle.std.specs.List.{list_any}
use Rattle.std.specs.Int.{bit_at}
use Rattle.std.proofs.lemmas.Bool.{cases_eq, cases_lt}
use Rattle.std.proofs.lemmas.List.{get_or-set_same, set_past}
use Rattle.clk_base.specs.Description.{Description}
use Rattle.reg_bank.specs.Registers.{Registers, bits_of, with_bits, field, put, is_set, put_bit}
use Rattle.reg_bank.proofs.FieldLaws.{length-put, field-put_other_word, field-put_apart}
use Rattle.reg_bank.proofs.NumberLaws.{bit_at-with_bits_inside}
use Rattle.clk_model.specs.Lists.{count_from}
use Rattle.clk_model.specs.Prep.{gates_cleared, masked}
use Rattle.clk_model.proofs.PrepLaws.{is_gate_at, is_set-gates_cleared, masked_same}
use Rattle.clk_model.proofs.PrepToldLaws.{same_words}

-- a bit that is no gate's is the same in registers that are the same without their gates
pub bit_same : (defs : Description) (xs ys : Registers) (word bit : ℕ) → masked defs xs ≡ masked defs ys → list_any (is_gate_at defs word bit) (count_from 0 (length defs)) ≡ false
    → is_set xs word bit ≡ is_set ys word bit
unfolding masked
bit_same defs xs ys word bit same none =
    let shown : (zs : Registers) → is_set (gates_cleared defs (count_from 0 (length defs)) zs) word bit ≡ is_set zs word bit =
    (λ zs. is_set-gates_cleared defs (count_from 0 (length defs)) zs word bit ∙ ap (λ (t : Bool). cond t false (is_set zs word bit)) none) in
    sym (shown xs) ∙ ap (λ (zs : Registers). is_set zs word bit) same ∙ shown ys

-- a bit in a field reads what was put
set_inside : (xs : Registers) (word shift width value bit : ℕ) → word < length xs → value < 2 ^ width → shift ≤ bit → bit < shift + width
    → is_set (put xs word shift width value) word bit ≡ nat_eq (bit_at value (bit - shift)) 1
unfolding is_set field bits_of put
set_inside xs word shift width value bit within fits from below =
    ap (λ (n : ℕ). nat_eq (bit_at n bit) 1) (get_or-set_same xs word (with_bits (get_or xs word 0) shift width value) 0 within)
    ∙ ap (λ (n : ℕ). nat_eq n 1) (bit_at-with_bits_inside (get_or xs word 0) shift width value bit fits from below)

put_nowhere : (xs : Registers) (word shift width value : ℕ) → length xs ≤ word → put xs word shift width value ≡ xs
unfolding put
put_nowhere xs word shift width value past = set_past xs word _ past

-- a bit beside a field is as it was
set_beside : (xs : Registers) (word shift width value other bit : ℕ) → value < 2 ^ width → ((other ≢ word) ⊎ ((bit < shift) ⊎ (shift + width ≤ bit)))
    → is_set (put xs word shift width value) other bit ≡ is_set xs other bit
unfolding is_set
set_beside xs word shift width value other bit fits (inl apart) = ap (λ (n : ℕ). nat_eq n 1) (field-put_other_word xs word shift width value other bit 1 apart)
set_beside xs word shift width value other bit fits (inr (inl below)) = ap (λ (n : ℕ). nat_eq n 1) (field-put_apart xs word shift width value other bit 1 fits (inl (omega arith)))
set_beside xs word shift width value other bit fits (inr (inr above)) = ap (λ (n : ℕ). nat_eq n 1) (field-put_apart xs word shift width value other bit 1 fits (inr above))

-- where a bit lies to a field
where_is : (word shift width other bit : ℕ) → ((other ≢ word) ⊎ ((bit < shift) ⊎ (shift + width ≤ bit))) ⊎ ((other ≡ word) × (shift ≤ bit) × (bit < shift + width))
where_is word shift width other bit =
    elim (cases_eq other word) [
      | inr apart ↦ inl (inl apart)
      | inl at ↦ elim (cases_lt bit shift) [
        | inl below ↦ inl (inr (inl below))
        | inr from ↦ elim (cases_lt bit (shift + width)) [
          | inl inside ↦ inr (at, from, inside)
          | inr above ↦ inl (inr (inr above))
        ]
      ]
    ]

-- a put leaves registers the same without their gates
pub masked_put : (defs : Description) (xs ys : Registers) (word shift width value : ℕ) → value < 2 ^ width → masked defs xs ≡ masked defs ys
    → masked defs (put xs word shift width value) ≡ masked defs (put ys word shift width value)
masked_put defs xs ys word shift width value fits same = masked_same defs (put xs word shift width value) (put ys word shift width value)
    (length-put xs word shift width value ∙ long ∙ sym (length-put ys word shift width value))
    (λ other bit none. at other bit (bit_same defs xs ys other bit same none) (where_is word shift width other bit)) where
      long : length xs ≡ length ys
      long = same_words defs xs ys same

      at : (other bit : ℕ) → is_set xs other bit ≡ is_set ys other bit → ((other ≢ word) ⊎ ((bit < shift) ⊎ (shift + width ≤ bit))) ⊎ ((other ≡ word) × (shift ≤ bit) × (bit < shift + width))
          → is_set (put xs word shift width value) other bit ≡ is_set (put ys word shift width value) other bit
      at other bit one (inl apart) = set_beside xs word shift width value other bit fits apart ∙ one ∙ sym (set_beside ys word shift width value other bit fits apart)
      at other bit one (inr (here, from, inside)) =
          elim (cases_lt word (length xs)) [
            | inl within ↦ subst (λ (w : ℕ). is_set (put xs word shift width value) w bit ≡ is_set (put ys word shift width value) w bit) (sym here)
                (set_inside xs word shift width value bit within fits from inside ∙ sym (set_inside ys word shift width value bit (let longer = long in omega arith) fits from inside))
            | inr past ↦ ap (λ (zs : Registers). is_set zs other bit) (put_nowhere xs word shift width value past) ∙ one
                ∙ sym (ap (λ (zs : Registers). is_set zs other bit) (put_nowhere ys word shift width value (let longer = long in omega arith)))
          ]

-- and so does a bit
pub masked_bit : (defs : Description) (xs ys : Registers) (word bit : ℕ) (value : Bool) → masked defs xs ≡ masked defs ys → masked defs (put_bit xs word bit value) ≡ masked defs (put_bit ys word bit value)
unfolding put_bit
masked_bit defs xs ys word bit value same = masked_put defs xs ys word bit 1 (cond value 1 0) (digit value) same where
  digit : (b : Bool) → cond b 1 0 < 2 ^ 1
  digit true = omega arith
  digit false = omega arith
