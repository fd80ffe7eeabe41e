-- Numbers as words write them.
use Rattle.std.specs.Prelude.{ℕ, ◌==◌, ◌&&◌, nat_le, not, Bool, Option, Some, None, List, length, drop, slice_index, if◌then◌else◌}
use Rattle.std.specs.Char.{is_ascii_digit, is_ascii_hexdigit}
use Rattle.std.specs.List.{list_all}
use Rattle.std.specs.Option.{option_and_then, option_map_or}
use Rattle.std.specs.Str.Parse.{digits_value}

-- one decimal digit or more, and nothing else; the first may be 0
abbrev pub is_decimal : List ℕ → Bool
is_decimal word = not (length word == 0) && list_all is_ascii_digit word

-- the number that decimal digits write, where it is at most `most`
unfoldable pub number_up_to : ℕ → List ℕ → Option ℕ
number_up_to most word = if is_decimal word && nat_le (digits_value 10 word) most then Some (digits_value 10 word) else None

-- one hexadecimal digit or more, of either case, and nothing else
abbrev pub is_hexadecimal : List ℕ → Bool
is_hexadecimal digits = not (length digits == 0) && list_all is_ascii_hexdigit digits

-- the number that hexadecimal digits write, where it is at most `most`
unfoldable pub hexadecimal_up_to : ℕ → List ℕ → Option ℕ
hexadecimal_up_to most digits = if is_hexadecimal digits && nat_le (digits_value 16 digits) most then Some (digits_value 16 digits) else None

-- what stands behind `0x`, where a word begins so
unfoldable pub behind_0x : List ℕ → Option (List ℕ)
behind_0x word = if (slice_index word 0 == 48) && (slice_index word 1 == 120) then Some (drop 2 word) else None

-- the number that a word writes, `0x` and hexadecimal digits or decimal digits, where it is at most `most`
unfoldable pub written_up_to : ℕ → List ℕ → Option ℕ
written_up_to most word = option_map_or (hexadecimal_up_to most) (behind_0x word) (number_up_to most word)

-- the number that a word writes, where it lies from `least` to `most`
unfoldable pub number_within : ℕ → ℕ → List ℕ → Option ℕ
number_within least most word = option_and_then (λ n. if nat_le least n then Some n else None) (written_up_to most word)
