-- How big a number may be, by the words before it.
use Rattle.std.specs.Prelude.{ℕ, ◌&&◌, ◌||◌, nat_lt, not, Bool, false, Option, Some, None, List, [], ◌∷◌, codes, if◌then◌else◌}
use Rattle.std.specs.List.{list_any}
use Rattle.std.specs.Option.{option_map_or}
use Rattle.std.specs.Str.{bytes_eq}
use Rattle.dts_tokens.specs.Numbers.{is_number, value_of}

-- one of the words opens, and none behind it closes
abbrev pub is_open : List ℕ → List ℕ → List (List ℕ) → Bool
is_open opening closing [] = false
is_open opening closing (word ∷ words) = (bytes_eq word opening && not (list_any (λ w. bytes_eq w closing) words)) || is_open opening closing words

-- behind `<`, with no `>` between, stand cells
abbrev pub is_in_cells : List (List ℕ) → Bool
is_in_cells words = is_open (codes "<") (codes ">") words

-- behind `/memreserve/`, with no `;` between, stand a place in memory and a length
abbrev pub is_in_reserve : List (List ℕ) → Bool
is_in_reserve words = is_open (codes "/memreserve/") (codes ";") words

-- the most that a number behind these words may be, where there is a most
unfoldable pub most_behind : List (List ℕ) → Option ℕ
most_behind words = if is_in_cells words then Some 4294967295 else (if is_in_reserve words then Some 18446744073709551615 else None)

-- the word is a number, and above the most that it may be behind these words
unfoldable pub is_too_big : List (List ℕ) → List ℕ → Bool
is_too_big words word = option_map_or (λ most. is_number word && nat_lt most (value_of word)) (most_behind words) false
