-- Numbers in decimal: as plain words, read back, and apart.
use Rattle.std.proofs.Common.{◌≡◌, ℕ, ◌^◌, ◌<◌, ◌≤◌, ◌==◌, nat_le, not, true, false, cond, List, [], ◌∷◌, length, Some, None, decimal, refl, sym, ap, ◌∙◌, arith}
use Rattle.std.specs.Char.{is_ascii_digit}
use Rattle.std.specs.List.{list_all}
use Rattle.std.specs.Option.{option_and_then, option_map_or}
use Rattle.std.specs.Str.Parse.{digits_value}
use Rattle.std.proofs.lemmas.Bool.{and_parts, and_from, le-leb, ne_eqb}
use Rattle.std.proofs.lemmas.Bool.Decides.{nat_tests}
use Rattle.std.proofs.lemmas.Fmt.{digits_decimal, digits_value-decimal, decimal_nonempty}
use Rattle.bundle_text.specs.Names.{is_seen}
use Rattle.bundle_text.specs.Numbers.{number_up_to, behind_0x, written_up_to, number_within}
use Rattle.bundle_text.proofs.Decimals.{number_up_to-within, own}
use Rattle.gen_laws.specs.Rows.{is_plain}

-- decimal digits, one at least
pub all_digits : (n : ℕ) → n < 2 ^ 64 → list_all is_ascii_digit (decimal n) ≡ true
all_digits n h = digits_decimal own n h

pub value-decimal : (n : ℕ) → n < 2 ^ 64 → digits_value 10 (decimal n) ≡ n
value-decimal n h = digits_value-decimal own n h

-- two numbers of one text are one
pub same_decimal : (m n : ℕ) → m < 2 ^ 64 → n < 2 ^ 64 → decimal m ≡ decimal n → m ≡ n
same_decimal m n hm hn e = sym (value-decimal m hm) ∙ (ap (digits_value 10) e ∙ value-decimal n hn)

seen-digit : (b : ℕ) → is_ascii_digit b ≡ true → is_seen b ≡ true
seen-digit b h = grind (arith, nat_tests)

seen-digits : (ds : List ℕ) → list_all is_ascii_digit ds ≡ true → list_all is_seen ds ≡ true
seen-digits [] h = refl
seen-digits (d ∷ ds) h =
    let parts = and_parts (is_ascii_digit d) (list_all is_ascii_digit ds) h in
    and_from (is_seen d) (list_all is_seen ds) (seen-digit d parts.0) (seen-digits ds parts.1)

-- the characters of a number are seen
pub seen-decimal : (n : ℕ) → n < 2 ^ 64 → list_all is_seen (decimal n) ≡ true
seen-decimal n h = seen-digits (decimal n) (all_digits n h)

-- a number is a plain word
pub plain-decimal : (n : ℕ) → n < 2 ^ 64 → is_plain (decimal n) ≡ true
plain-decimal n h =
    let some : 0 < length (decimal n) = decimal_nonempty n h in
    and_from (not (length (decimal n) == 0)) (list_all is_seen (decimal n)) (ap not (ne_eqb (length (decimal n)) 0 (λ e. omega arith))) (seen-decimal n h)

-- digits don't begin with `0x`
no_0x : (ds : List ℕ) → list_all is_ascii_digit ds ≡ true → behind_0x ds ≡ None
unfolding behind_0x
no_0x [] h = refl
no_0x (a ∷ []) h = grind (arith, nat_tests)
no_0x (a ∷ b ∷ ds) h =
    let parts = and_parts (is_ascii_digit a) (list_all is_ascii_digit (b ∷ ds)) h in
    let more = and_parts (is_ascii_digit b) (list_all is_ascii_digit ds) parts.1 in
    let other : (b == 120) ≡ false = grind (arith, nat_tests) in
    rw other (grind (arith, nat_tests))

-- a number is read back where it lies within its bounds
pub number-decimal : (least most n : ℕ) → n < 2 ^ 64 → least ≤ n → n ≤ most → number_within least most (decimal n) ≡ Some n
unfolding number_within written_up_to
number-decimal least most n fits low high =
    let digits = all_digits n fits in
    let read : number_up_to most (decimal n) ≡ Some n = number_up_to-within most n (decimal n) digits (decimal_nonempty n fits) (value-decimal n fits) high in
    let written : option_map_or _ (behind_0x (decimal n)) (number_up_to most (decimal n)) ≡ Some n = rw (no_0x (decimal n) digits) read in
    ap (option_and_then (λ m. cond (nat_le least m) (Some m) None)) written ∙ ap (λ b. cond b (Some n) None) (le-leb least n low)
