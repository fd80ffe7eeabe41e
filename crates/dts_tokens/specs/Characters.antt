-- What a character may be part of.
use Rattle.std.specs.Prelude.{ℕ, ◌==◌, ◌||◌, Bool, List, codes}
use Rattle.std.specs.Char.{is_ascii_alphanumeric}
use Rattle.std.specs.List.{list_any}

-- a character is one of a list of characters
abbrev pub is_one_of : List ℕ → ℕ → Bool
is_one_of characters b = list_any (λ c. b == c) characters

-- a space, a tab or a line feed
abbrev pub is_blank : ℕ → Bool
is_blank b = (b == 32) || (b == 9) || (b == 10)

-- names of nodes and properties have letters, digits and `,._+-?#`
unfoldable pub is_name_character : ℕ → Bool
is_name_character b = is_ascii_alphanumeric b || is_one_of (codes ",._+-?#") b

-- labels have letters, digits and `_`
unfoldable pub is_label_character : ℕ → Bool
is_label_character b = is_ascii_alphanumeric b || (b == 95)

-- a word has characters of names, and the `@` of a unit address
unfoldable pub is_word_character : ℕ → Bool
is_word_character b = is_name_character b || (b == 64)

-- the signs, which are tokens by themselves
unfoldable pub is_sign : ℕ → Bool
is_sign b = is_one_of (codes ":;={}<>[]") b
