-- The lines of a bundle's text. Places count lines from 0.
use Rattle.std.specs.Prelude.{ℕ, ◌+◌, ◌==◌, Bool, List, [], drop, slice_index}
use Rattle.std.specs.List.{slice_index_or, position_or_len}

-- the line at a place; there is nothing on a line past the last
abbrev pub line_at : List (List ℕ) → ℕ → List ℕ
line_at ls k = slice_index_or ls k []

-- the line begins with `%`
abbrev pub is_header : List ℕ → Bool
is_header line = slice_index line 0 == 37

-- the place of the first header at this place or behind it, else the number of lines
unfoldable pub header_from : List (List ℕ) → ℕ → ℕ
header_from ls from = from + position_or_len is_header (drop from ls)
