-- Rows: lines by their words, which single spaces part.
use Rattle.std.specs.Prelude.{ℕ, ◌==◌, ◌&&◌, not, Bool, List, [], ◌∷◌, ◌++◌, length}
use Rattle.std.specs.List.{list_all}
use Rattle.bundle_text.specs.Names.{is_seen}

-- the word has a character at least, and each of them is seen
abbrev pub is_plain : List ℕ → Bool
is_plain word = not (length word == 0) && list_all is_seen word

-- each word of the row is plain
abbrev pub are_plain : List (List ℕ) → Bool
are_plain row = list_all is_plain row

-- these words, each behind a space, and then this
abbrev pub behind_spaces : List (List ℕ) → List ℕ → List ℕ
behind_spaces [] tail = tail
behind_spaces (word ∷ words) tail = 32 ∷ (word ++ behind_spaces words tail)

-- the words of a row with a space between each two, and then this
abbrev pub row_before : List (List ℕ) → List ℕ → List ℕ
row_before [] tail = tail
row_before (word ∷ words) tail = word ++ behind_spaces words tail

-- the line of a row
abbrev pub row_text : List (List ℕ) → List ℕ
row_text row = row_before row []

-- the text of rows, each a line
abbrev pub rows_text : List (List (List ℕ)) → List ℕ
rows_text [] = []
rows_text (row ∷ rows) = row_before row (10 ∷ rows_text rows)
