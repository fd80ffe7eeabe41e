-- Numbers that are read lie within their bounds.
use Rattle.std.proofs.Common.{◌≡◌, ℕ, nat_le, ◌≤◌, cond, List, Some, None, refl, arith}
use Rattle.std.specs.Option.{option_map_or, option_and_then}
use Rattle.std.proofs.lemmas.Bool.Decides.{nat_tests}
use Rattle.bundle_text.specs.Numbers.{number_up_to, hexadecimal_up_to, behind_0x, written_up_to, number_within}

decimal_most : (most : ℕ) (word : List ℕ) (n : ℕ) → number_up_to most word ≡ Some n → n ≤ most
unfolding number_up_to
decimal_most most word n h = grind (arith, nat_tests)

hexadecimal_most : (most : ℕ) (digits : List ℕ) (n : ℕ) → hexadecimal_up_to most digits ≡ Some n → n ≤ most
unfolding hexadecimal_up_to
hexadecimal_most most digits n h = grind (arith, nat_tests)

written_most : (most : ℕ) (word : List ℕ) (n : ℕ) → written_up_to most word ≡ Some n → n ≤ most
unfolding written_up_to
written_most most word n h =
    elim (behind_0x word) as (λ o. option_map_or (hexadecimal_up_to most) o (number_up_to most word) ≡ Some n → n ≤ most) [ None ↦ λ e. decimal_most most word n e | Some digits ↦ λ e. hexadecimal_most most digits n e ] h

-- a number within bounds
pub number_bounds : (least most : ℕ) (word : List ℕ) (n : ℕ) → number_within least most word ≡ Some n → (least ≤ n) × (n ≤ most)
unfolding number_within
number_bounds least most word n h =
    elim (written_up_to most word) as (λ o. written_up_to most word ≡ o → option_and_then (λ m. cond (nat_le least m) (Some m) None) o ≡ Some n → (least ≤ n) × (n ≤ most)) [
      | None ↦ λ w e. absurd (cc)
      | Some m ↦ λ w e. within m (written_most most word m w) e
    ] refl h
  where
    within : (m : ℕ) → m ≤ most → cond (nat_le least m) (Some m) None ≡ Some n → (least ≤ n) × (n ≤ most)
    within m high e = grind (arith, nat_tests)
