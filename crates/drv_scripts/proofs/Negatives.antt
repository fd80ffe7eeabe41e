-- Bytes that aren't UTF-8 write no number.
use Rattle.std.proofs.Common.{◌≡◌, ℕ, true, List, [], ◌∷◌, None, refl, ap, rules, arith, tests, inl, inr}
use Rattle.std.specs.Char.{is_ascii_digit, is_ascii_hexdigit}
use Rattle.std.specs.List.{list_all}
use Rattle.std.specs.Option.{option_map}
use Rattle.std.specs.Prelude.{pos, neg_ℤ}
use Rattle.std.specs.Str.{IsUtf8}
use Rattle.std.proofs.lemmas.Bool.{cases_Bool, and_from}
use Rattle.std.proofs.lemmas.Bool.Decides.{nat_tests}
use Rattle.bundle_text.proofs.Decimals.{number_up_to-other}
use Rattle.bundle_text.proofs.Hexadecimals.{IsUtf8-hexadecimal}
use Rattle.drv_scripts.specs.CommandLines.{negative}

digit_hexadecimal : (c : ℕ) → is_ascii_digit c ≡ true → is_ascii_hexdigit c ≡ true
digit_hexadecimal c h = grind (arith, nat_tests)

digits_hexadecimal : (digits : List ℕ) → list_all is_ascii_digit digits ≡ true → list_all is_ascii_hexdigit digits ≡ true
digits_hexadecimal [] h = refl
digits_hexadecimal (c ∷ cs) h =
    let first : is_ascii_digit c ≡ true = search (rules, tests, h) in
    let rest : list_all is_ascii_digit cs ≡ true = search (rules, tests, h) in
    and_from (is_ascii_hexdigit c) (list_all is_ascii_hexdigit cs) (digit_hexadecimal c first) (digits_hexadecimal cs rest)

pub negative-other : (digits : List ℕ) → ¬ (IsUtf8 digits) → negative digits ≡ None
negative-other digits other =
    elim (cases_Bool (list_all is_ascii_digit digits)) [
      | inl all ↦ absurd (other (IsUtf8-hexadecimal digits (digits_hexadecimal digits all)))
      | inr some ↦ ap (option_map (λ n. neg_ℤ (pos n))) (number_up_to-other 2147483648 digits some)
    ]
