-- What stands in its places, left and right.
use Rattle.std.proofs.Common.{◌≡◌, ℕ, zero, suc, ◌+◌, ◌-◌, ◌^◌, List, [], ◌∷◌, ◌++◌, false, length, replicate, refl, sym, ap, ◌∙◌, append_assoc, append-nil, arith}
use Rattle.std.proofs.Math.Nat.{sub_self}
use Rattle.std.proofs.lemmas.List.{length-append, length-replicate}
use Rattle.std.proofs.lemmas.Str.{encode_ascii}
use Rattle.std.specs.Char.{encode_utf8}
use Rattle.std.specs.Fmt.{padded_integral, format_spec, char_count}
use Rattle.std.specs.List.{repeat}
use Rattle.clk_model.specs.Summary.{left_in, right_in, spaces}

-- a space repeated is spaces
spaces_are : (n : ℕ) → repeat {A = ℕ} n (32 ∷ []) ≡ replicate n 32
spaces_are zero = refl
spaces_are (suc n) = ap (λ xs. 32 ∷ xs) (spaces_are n)

-- what is left of a padded numeral where nothing but spaces is put to it
bare : (fill numeral rest : List ℕ) → rest ≡ [] → fill ++ [] ++ [] ++ [] ++ (numeral ++ rest) ≡ fill ++ numeral
bare fill numeral rest none = rw none (simp append-nil)

-- what `{:>N}` puts in front of a numeral
pub right_is : (places : ℕ) (numeral : List ℕ) → padded_integral (format_spec 32 3 0 places (2 ^ 64 - 1)) false [] numeral ≡ right_in places numeral
unfolding padded_integral char_count
right_is places numeral =
    bare (repeat {A = ℕ} (places - length numeral - 0 - 0) (encode_utf8 32)) numeral (repeat {A = ℕ} ((places - length numeral - 0 - 0) - (places - length numeral - 0 - 0)) (encode_utf8 32))
    (ap (λ n. repeat {A = ℕ} n (encode_utf8 32)) (sub_self (places - length numeral - 0 - 0)))
    ∙ ap (λ xs. xs ++ numeral)
    (ap (λ e. repeat {A = ℕ} (places - length numeral - 0 - 0) e) (encode_ascii 32 (omega arith))
    ∙ spaces_are (places - length numeral - 0 - 0)
    ∙ ap (λ n. replicate n 32) {x = places - length numeral - 0 - 0} {y = places - length numeral} (omega arith))

-- a name behind spaces, and the spaces that fill its places
pub indented : (indent : ℕ) (name : List ℕ) → spaces indent ++ (name ++ spaces (32 - indent - length name)) ≡ left_in 32 (spaces indent ++ name)
indented indent name =
    let count : length (spaces indent ++ name) ≡ indent + length name = length-append (spaces indent) name ∙ ap (λ n. n + length name) (length-replicate indent 32) in
    let rest : 32 - indent - length name ≡ 32 - length (spaces indent ++ name) = omega (arith, count) in
    ap (λ n. spaces indent ++ (name ++ spaces n)) rest ∙ sym (append_assoc (spaces indent) name (spaces (32 - length (spaces indent ++ name))))
