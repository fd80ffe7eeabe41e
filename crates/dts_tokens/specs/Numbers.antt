-- Numbers as words spell them.
use Rattle.std.specs.Prelude.{ℕ, ◌==◌, ◌&&◌, nat_le, nat_eq, not, Bool, Option, Some, None, List, length, drop, codes, slice_index, if◌then◌else◌}
use Rattle.std.specs.Char.{is_digit}
use Rattle.std.specs.List.{list_all, starts_with}
use Rattle.std.specs.Str.Parse.{digits_value}

-- the word begins with `0x`
abbrev pub is_hexadecimal : List ℕ → Bool
is_hexadecimal word = starts_with nat_eq word (codes "0x")

-- the beginning tells the base: `0x` is hexadecimal, another `0` octal, anything else decimal
unfoldable pub base_of : List ℕ → ℕ
base_of word = if is_hexadecimal word then 16 else (if slice_index word 0 == 48 then 8 else 10)

-- the digits stand behind `0x`; else they are the whole word
unfoldable pub digits_of : List ℕ → List ℕ
digits_of word = if is_hexadecimal word then drop 2 word else word

-- a number has digits of its base, one at least, and nothing else
unfoldable pub is_number : List ℕ → Bool
is_number word = not (length (digits_of word) == 0) && list_all (λ c. is_digit c (base_of word)) (digits_of word)

-- the number that the digits write
unfoldable pub value_of : List ℕ → ℕ
value_of word = digits_value (base_of word) (digits_of word)

-- the number that the word spells, where it spells one of at most `most`
unfoldable pub number_up_to : ℕ → List ℕ → Option ℕ
number_up_to most word = if is_number word && nat_le (value_of word) most then Some (value_of word) else None
