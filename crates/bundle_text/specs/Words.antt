-- The words of a line.
use Rattle.std.specs.Prelude.{ℕ, ◌==◌, ◌&&◌, ◌||◌, not, Bool, false, List, [], ◌∷◌, Option, Some, None, length, map, slice_index, if◌then◌else◌}
use Rattle.std.specs.Borrow.{Bor}
use Rattle.std.specs.List.{slice_split, list_any, filter_map}
use Rattle.std.specs.Str.{is_utf8}

-- what borrowed words contain
abbrev pub texts : List (Bor (List ℕ)) → List (List ℕ)
texts words = map (λ w. w.now) words

-- the parts of a line between single spaces; a line that isn't UTF-8 has none
unfoldable pub spaced_words : List ℕ → List (List ℕ)
spaced_words line = if is_utf8 line then slice_split (λ b. b == 32) line else []

-- a space or a tab
abbrev pub is_blank : ℕ → Bool
is_blank b = (b == 32) || (b == 9)

-- one character or more, and no blank
unfoldable pub is_word : List ℕ → Bool
is_word word = not (length word == 0) && not (list_any is_blank word)

-- one byte or more, and UTF-8
unfoldable pub as_word : List ℕ → Option (List ℕ)
as_word part = if not (length part == 0) && is_utf8 part then Some part else None

-- the words of a line: its parts between blanks, without the empty ones and those that aren't UTF-8
unfoldable pub blank_words : List ℕ → List (List ℕ)
blank_words line = filter_map as_word (slice_split is_blank line)

-- the first word begins with `#`
abbrev pub is_comment : List (List ℕ) → Bool
is_comment [] = false
is_comment (word ∷ words) = slice_index word 0 == 35

-- the words that a line says: a comment says none
unfoldable pub said_words : List ℕ → List (List ℕ)
said_words line = if is_comment (blank_words line) then [] else blank_words line
