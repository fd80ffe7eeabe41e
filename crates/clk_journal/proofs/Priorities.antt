-- A priority is read back exactly as it is printed.
use Rattle.std.proofs.Common.{◌≡◌, ℕ, ℤ, pos, negsuc, zero, suc, ◌-◌, ◌<◌, ◌^◌, Bool, true, false, cond, [], ◌∷◌, drop, get_or, Option, Some, None, refl, sym, ap, ◌∙◌, arith}
use Rattle.std.specs.Prelude.{◌==◌, is_some}
use Rattle.std.specs.Fmt.{decimal, signed_decimal}
use Rattle.std.specs.Int.Signed.{mag}
use Rattle.std.specs.Option.{option_map, option_and_then}
use Rattle.std.proofs.lemmas.Bool.Decides.{nat_tests}
use Rattle.std.proofs.lemmas.Fmt.{first_decimal, decimal_digit}
use Rattle.clk_model.specs.Text.{Word}
use Rattle.clk_journal.specs.ReadNumbers.{number, minus, below, priority}
use Rattle.clk_journal.proofs.Numerals.{number_back, number_forth}

no_minus : (n : ℕ) → n < 2 ^ 64 → (get_or (decimal n) 0 0 == 45) ≡ false
no_minus zero low = ap (λ w. get_or w 0 0 == 45) (decimal_digit 0 (omega arith))
no_minus (suc n) low = let h : 48 < get_or (decimal (suc n)) 0 0 = first_decimal (suc n) (omega arith) low in grind (arith, nat_tests, h)

pub priority_back : (z : ℤ) → mag z < 2 ^ 31 → priority (signed_decimal z) ≡ Some z
unfolding priority below
priority_back (pos n) low =
    ap (λ b. cond b (below (drop 1 (decimal n))) (option_map (λ (k : ℕ). pos k) (number (2 ^ 31 - 1) (decimal n)))) (no_minus n (omega arith))
    ∙ ap (option_map (λ (k : ℕ). pos k)) (number_back (2 ^ 31 - 1) n (omega arith) (omega arith))
priority_back (negsuc n) low = ap (option_and_then minus) (number_back (2 ^ 31) (suc n) (omega arith) (omega arith))

-- what a priority's word is
pub record IsPriorityOf (w : Word) (z : ℤ) : Type 0 where
  pub word : signed_decimal z ≡ w
  pub low : mag z < 2 ^ 31

signed_word : (w : Word) → (get_or w 0 0 == 45) ≡ true → w ≡ 45 ∷ drop 1 w
signed_word [] e = absurd cc
signed_word (b ∷ w) e = let same : b ≡ 45 = grind (arith, nat_tests, e) in ap (λ x. x ∷ w) same

under : (w : Word) (z : ℤ) → w ≡ 45 ∷ drop 1 w → below (drop 1 w) ≡ Some z → IsPriorityOf w z
unfolding below
under w z is e = by (number (2 ^ 31) (drop 1 w)) refl e where
  by : (o : Option ℕ) → number (2 ^ 31) (drop 1 w) ≡ o → option_and_then minus o ≡ Some z → IsPriorityOf w z
  by None o f = absurd cc
  by (Some zero) o f = absurd cc
  by (Some (suc n)) o f =
      let h = number_forth (2 ^ 31) (drop 1 w) (suc n) o in
      let same : negsuc n ≡ z = cc in
      record { word = ap signed_decimal (sym same) ∙ ap (λ ds. 45 ∷ ds) h.word ∙ sym is; low = rw (sym same) (omega (arith, h.low)) }

pub priority_forth : (w : Word) (z : ℤ) → priority w ≡ Some z → IsPriorityOf w z
unfolding priority
priority_forth w z e = by (get_or w 0 0 == 45) refl e where
  by : (b : Bool) → (get_or w 0 0 == 45) ≡ b → cond b (below (drop 1 w)) (option_map (λ (n : ℕ). pos n) (number (2 ^ 31 - 1) w)) ≡ Some z → IsPriorityOf w z
  by true m f = under w z (signed_word w m) f
  by false m f = plain (number (2 ^ 31 - 1) w) refl f where
    plain : (o : Option ℕ) → number (2 ^ 31 - 1) w ≡ o → option_map (λ (n : ℕ). pos n) o ≡ Some z → IsPriorityOf w z
    plain None o g = absurd cc
    plain (Some n) o g =
        let h = number_forth (2 ^ 31 - 1) w n o in
        let same : pos n ≡ z = cc in
        record { word = ap signed_decimal (sym same) ∙ h.word; low = rw (sym same) (omega (arith, h.low)) }

-- ---- what the program reads

-- a word that has a priority writes one as it is printed
pub known : (w : Word) → is_some (priority w) ≡ true → (z : ℤ) × (priority w ≡ Some z) × IsPriorityOf w z
known w e = by (priority w) refl e where
  by : (o : Option ℤ) → priority w ≡ o → is_some o ≡ true → (z : ℤ) × (priority w ≡ Some z) × IsPriorityOf w z
  by None o f = absurd cc
  by (Some z) o f = (z, o, priority_forth w z o)

pub unknown : (o : Option ℤ) → is_some o ≡ false → None ≡ o
unknown None e = refl
unknown (Some z) e = absurd cc

-- a word that begins with a minus sign
pub signed : (w digits : Word) → w ≡ 45 ∷ digits → priority w ≡ below digits
unfolding priority
signed w digits is = ap priority is

-- a word that doesn't
pub unsigned : (w : Word) → ((rest : Word) → w ≡ 45 ∷ rest → ⊥) → priority w ≡ option_map (λ (n : ℕ). pos n) (number (2 ^ 31 - 1) w)
unfolding priority
unsigned w other = by (get_or w 0 0 == 45) refl where
  by : (b : Bool) → (get_or w 0 0 == 45) ≡ b → cond b (below (drop 1 w)) (option_map (λ (n : ℕ). pos n) (number (2 ^ 31 - 1) w)) ≡ option_map (λ (n : ℕ). pos n) (number (2 ^ 31 - 1) w)
  by true e = absurd (other (drop 1 w) (signed_word w e))
  by false e = refl

pub there : (o : Option ℕ) → is_some (option_map (λ (n : ℕ). pos n) o) ≡ is_some o
there None = refl
there (Some n) = refl
