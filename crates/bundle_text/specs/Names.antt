-- Which words are names.
use Rattle.std.specs.Prelude.{ℕ, ◌==◌, ◌&&◌, ◌||◌, nat_le, not, Bool, List, length, slice_index, codes}
use Rattle.std.specs.Char.{is_ascii_digit, is_ascii_lowercase, is_ascii_alphanumeric}
use Rattle.std.specs.List.{list_all}
use Rattle.std.specs.Str.{bytes_eq}

-- a character that is seen: any of ASCII but a space and the control characters
abbrev pub is_seen : ℕ → Bool
is_seen b = nat_le 0x21 b && nat_le b 0x7e

-- 1 to 64 characters that are seen
unfoldable pub is_clock_name : List ℕ → Bool
is_clock_name word = not (length word == 0) && nat_le (length word) 64 && list_all is_seen word

-- a letter, a digit, `_` or `-`
abbrev pub is_driver_character : ℕ → Bool
is_driver_character b = is_ascii_alphanumeric b || (b == 95) || (b == 45)

-- 1 to 32 letters, digits, `_` and `-`, and not `boot`
unfoldable pub is_driver_name : List ℕ → Bool
is_driver_name word = not (length word == 0) && nat_le (length word) 32 && list_all is_driver_character word && not (bytes_eq word (codes "boot"))

-- a lower-case letter, a digit or `_`
abbrev pub is_variable_character : ℕ → Bool
is_variable_character b = is_ascii_lowercase b || is_ascii_digit b || (b == 95)

-- a lower-case letter, and then lower-case letters, digits and `_`, 32 at most
unfoldable pub is_variable : List ℕ → Bool
is_variable word = is_ascii_lowercase (slice_index word 0) && nat_le (length word) 32 && list_all is_variable_character word
