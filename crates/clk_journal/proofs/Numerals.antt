-- A number is read back exactly as it is printed.
use Rattle.std.proofs.Common.{◌≡◌, ℕ, zero, suc, ◌-◌, ◌<◌, ◌≤◌, ◌^◌, Bool, true, false, cond, length, get_or, Option, Some, None, Result, Ok, refl, sym, ap, ◌∙◌, arith, rules}
use Rattle.std.specs.Prelude.{◌==◌, ◌&&◌, nat_lt, nat_le}
use Rattle.std.specs.Fmt.{decimal}
use Rattle.std.specs.Char.{is_ascii_digit}
use Rattle.std.specs.List.{list_all}
use Rattle.std.specs.Option.{option_map}
use Rattle.std.specs.Str.{bytes_eq}
use Rattle.std.specs.Str.Parse.{digits_value, ParsesUnsigned}
use Rattle.std.proofs.lemmas.Bool.Decides.{nat_tests}
use Rattle.std.proofs.lemmas.Fmt.{digits_decimal, digits_value-decimal, decimal-digits_value, first_decimal, decimal_digit}
use Rattle.std.proofs.lemmas.Slice.Eq.{bytes_eq-Decides}
use Rattle.std.proofs.lemmas.Str.Parse.{IsDigitsTest, IsNumeralModel, numerals_by_value, parse_digits}
use Rattle.clk_base.specs.declared.handle.Handle.{Handle}
use Rattle.clk_model.specs.Text.{Word}
use Rattle.clk_journal.specs.ReadNumbers.{number, small, large, handle}
use Rattle.clk_journal.specs.Told.{told_handle}

tells : IsDigitsTest (λ ds. list_all is_ascii_digit ds ≡ true)
tells = search rules

own : IsNumeralModel (λ ds. list_all is_ascii_digit ds ≡ true) (digits_value 10)
own = numerals_by_value _ tells

-- ---- what is printed is read

pub number_back : (most n : ℕ) → n ≤ most → most < 2 ^ 64 → number most (decimal n) ≡ Some n
unfolding number
number_back most n low few =
    let fits : nat_le n most ≡ true = grind (arith, nat_tests, low) in
    ap (λ m. cond (bytes_eq (decimal n) (decimal m) && nat_le m most) (Some m) None) (digits_value-decimal own n (omega arith))
    ∙ ap (λ b. cond (b && nat_le n most) (Some n) None) ((bytes_eq-Decides (decimal n) (decimal n)).1 refl)
    ∙ ap (λ b. cond b (Some n) None) fits

pub small_back : (n : ℕ) → n < 2 ^ 32 → small (decimal n) ≡ Some n
small_back n low = number_back (2 ^ 32 - 1) n (omega arith) (omega arith)

pub large_back : (n : ℕ) → n < 2 ^ 64 → large (decimal n) ≡ Some n
large_back n low = number_back (2 ^ 64 - 1) n (omega arith) (omega arith)

pub handle_back : (d : ℕ) (h : Handle) → h.number < 2 ^ 32 → handle d (decimal h.number) ≡ Some (told_handle d h)
handle_back d h low = ap (option_map (λ (n : ℕ). let k : Handle = record { number = n; slot = 0; driver = d } in k)) (small_back h.number low)

-- ---- what is read is printed so

-- what a number's word is
pub record IsNumberOf (most : ℕ) (w : Word) (n : ℕ) : Type 0 where
  pub word : decimal n ≡ w
  pub low : n ≤ most

pub number_forth : (most : ℕ) (w : Word) (n : ℕ) → number most w ≡ Some n → IsNumberOf most w n
unfolding number
number_forth most w n e =
    let v = digits_value 10 w in
    by (bytes_eq w (decimal v)) (nat_le v most) refl refl e where
      by : (a b : Bool) → bytes_eq w (decimal (digits_value 10 w)) ≡ a → nat_le (digits_value 10 w) most ≡ b → cond (a && b) (Some (digits_value 10 w)) None ≡ Some n → IsNumberOf most w n
      by true true p q f =
          let same : digits_value 10 w ≡ n = cc in
          record { word = ap decimal (sym same) ∙ sym ((bytes_eq-Decides w (decimal (digits_value 10 w))).0 p); low = grind (arith, nat_tests, q, same) }
      by true false p q f = absurd cc
      by false b p q f = absurd cc

-- what a handle's word is
pub record IsHandleOf (d : ℕ) (w : Word) (h : Handle) : Type 0 where
  pub word : decimal h.number ≡ w
  pub low : h.number < 2 ^ 32
  pub told : told_handle d h ≡ h

pub handle_forth : (d : ℕ) (w : Word) (h : Handle) → handle d w ≡ Some h → IsHandleOf d w h
handle_forth d w h e =
    elim (small w) as (λ o. small w ≡ o → option_map (λ (n : ℕ). let k : Handle = record { number = n; slot = 0; driver = d } in k) o ≡ Some h → IsHandleOf d w h) [
      | None ↦ λ o f. absurd cc
      | Some n ↦ λ o f.
          let p = number_forth (2 ^ 32 - 1) w n o in
          let same : h ≡ (let k : Handle = record { number = n; slot = 0; driver = d } in k) = cc in
          record { word = ap (λ (k : Handle). decimal k.number) same ∙ p.word; low = rw same (omega (arith, p.low)); told = ap (told_handle d) same ∙ sym same }
    ] refl e

-- ---- what the program reads

-- an answer is the number of a word if it gives each number that is printed so, and no other
pub reads : (most : ℕ) (w : Word) (o : Option ℕ) → most < 2 ^ 64 → ((n : ℕ) → n ≤ most → decimal n ≡ w → o ≡ Some n) → ((n : ℕ) → o ≡ Some n → IsNumberOf most w n) → o ≡ number most w
reads most w (Some n) few all is = let h = is n refl in sym (ap (number most) (sym h.word) ∙ number_back most n h.low few)
reads most w None few all is = by (number most w) refl where
  by : (p : Option ℕ) → number most w ≡ p → None ≡ number most w
  by None e = sym e
  by (Some n) e = let h = number_forth most w n e in let both : None ≡ Some n = all n h.low h.word in absurd cc

-- whether a word begins with the digit 0 and goes on
abbrev pub is_led : Word → Bool
is_led w = (get_or w 0 0 == 48) && nat_lt 1 (length w)

plain : (n : ℕ) → n < 2 ^ 64 → is_led (decimal n) ≡ false
plain zero low = ap is_led (decimal_digit 0 (omega arith))
plain (suc n) low = let h : 48 < get_or (decimal (suc n)) 0 0 = first_decimal (suc n) (omega arith) low in grind (arith, nat_tests, h)

-- a number as it is printed has no needless 0 before it
pub not_led : (n : ℕ) (w : Word) → n < 2 ^ 64 → decimal n ≡ w → is_led w ≡ false
not_led n w low is = ap is_led (sym is) ∙ plain n low

-- it has digits alone
pub all_digits : (n : ℕ) (w : Word) → n < 2 ^ 64 → decimal n ≡ w → list_all is_ascii_digit w ≡ true
all_digits n w low is = ap (list_all is_ascii_digit) (sym is) ∙ digits_decimal own n low

-- a word of digits with no needless 0 that is parsed is the number as it is printed
pub printed : {E : Type 0} (w : Word) (r : Result ℕ E) (n : ℕ) → list_all is_ascii_digit w ≡ true → is_led w ≡ false → ParsesUnsigned 64 10 w r → r ≡ Ok n → decimal n ≡ w
printed w r n ds lead p e =
    let read = rw e at (parse_digits own 64 w r p ds) in
    let one : get_or w 0 0 ≡ 48 → length w ≡ 1 = λ first. grind (arith, nat_tests, lead, first, read.0.0) in
    ap decimal read.1 ∙ decimal-digits_value own w ds read.0.0 one read.0.1

-- a word that tells a number is another number's text exactly if they are the same
pub same_number : (w : Word) (k number : ℕ) → number < 2 ^ 32 → small w ≡ Some k → (k == number) ≡ bytes_eq w (decimal number)
same_number w k number low e = by (k == number) (bytes_eq w (decimal number)) refl refl where
  by : (a b : Bool) → (k == number) ≡ a → bytes_eq w (decimal number) ≡ b → (k == number) ≡ bytes_eq w (decimal number)
  by true true p q = p ∙ sym q
  by false false p q = p ∙ sym q
  by true false p q =
      let same : k ≡ number = grind (arith, nat_tests, p) in
      let text : bytes_eq w (decimal number) ≡ true = (bytes_eq-Decides w (decimal number)).1 (sym (number_forth (2 ^ 32 - 1) w k e).word ∙ ap decimal same) in
      absurd cc
  by false true p q =
      let back : small w ≡ Some number = ap small ((bytes_eq-Decides w (decimal number)).0 q) ∙ small_back number low in
      let same : k ≡ number = cc in
      absurd (grind (arith, nat_tests, p, same))

-- a word that tells none is no number's text
pub no_number : (w : Word) (number : ℕ) → number < 2 ^ 32 → small w ≡ None → false ≡ bytes_eq w (decimal number)
no_number w number low e = by (bytes_eq w (decimal number)) refl where
  by : (b : Bool) → bytes_eq w (decimal number) ≡ b → false ≡ bytes_eq w (decimal number)
  by false q = sym q
  by true q =
      let back : small w ≡ Some number = ap small ((bytes_eq-Decides w (decimal number)).0 q) ∙ small_back number low in
      absurd cc
