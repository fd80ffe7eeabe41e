-- What stands at the front of a text: a blank or a comment, a token, or a flaw.
use Rattle.std.specs.Prelude.{ℕ, ◌+◌, ◌<◌, ◌≤◌, ◌==◌, nat_eq, Bool, true, false, Option, Some, None, List, [], ◌∷◌, drop, codes, slice_index, if◌then◌else◌}
use Rattle.std.specs.List.{starts_with, prefix_len, position_or_len}
use Rattle.std.specs.Option.{option_map, option_map_or}
use Rattle.dts_tokens.specs.declared.flaw.Flaw.TheVariants.{BadChar, OpenString, OpenComment}
use Rattle.dts_tokens.specs.declared.piece.Piece.{Piece}
use Rattle.dts_tokens.specs.declared.piece.Piece.TheVariants.{Gap, Lexeme, Wrong}
use Rattle.dts_tokens.specs.Characters.{is_blank, is_label_character, is_word_character, is_sign}

-- a word goes on with as many characters as it can, and the colon directly behind them
unfoldable pub word_len : List ℕ → ℕ
word_len text = let run = prefix_len is_word_character text in
    if slice_index (drop run text) 0 == 58 then run + 1 else run

-- a reference goes on with as many characters of a label as it can
unfoldable pub label_len : List ℕ → ℕ
label_len text = prefix_len is_label_character text

-- the bytes before the next line feed, or all
unfoldable pub line_len : List ℕ → ℕ
line_len text = position_or_len (λ b. b == 10) text

-- the bytes through the first `*/`
unfoldable pub comment_end : List ℕ → Option ℕ
comment_end [] = None
comment_end (b ∷ rest) = if starts_with nat_eq (b ∷ rest) (codes "*/") then Some 2 else option_map (λ n. 1 + n) (comment_end rest)

-- the bytes through the first quote that no backslash takes in; the flag says whether one stands right before
unfoldable pub quote_end : Bool → List ℕ → Option ℕ
quote_end taken [] = None
quote_end true (b ∷ rest) = option_map (λ n. 1 + n) (quote_end false rest)
quote_end false (b ∷ rest) = if b == 34 then Some 1 else option_map (λ n. 1 + n) (quote_end (b == 92) rest)

-- behind a slash: a comment to the end of its line, a comment to `*/`, a directive, or nothing that belongs to the slash
unfoldable pub slash_piece : List ℕ → Piece
slash_piece rest =
    if starts_with nat_eq rest (codes "/") then Gap (1 + line_len rest)
    else (if starts_with nat_eq rest (codes "*") then option_map_or (λ n. Gap (2 + n)) (comment_end (drop 1 rest)) (Wrong OpenComment)
    else (if starts_with nat_eq rest (codes "dts-v1/") then Lexeme 8
    else (if starts_with nat_eq rest (codes "memreserve/") then Lexeme 12
    else Lexeme 1)))

-- behind a quote: the rest of the string
unfoldable pub string_piece : List ℕ → Piece
string_piece rest = option_map_or (λ n. Lexeme (1 + n)) (quote_end false rest) (Wrong OpenString)

-- what stands at the front of a text
unfoldable pub piece_at : List ℕ → Piece
piece_at [] = Gap 0
piece_at (b ∷ rest) =
    if is_blank b then Gap 1
    else (if is_word_character b then Lexeme (1 + word_len rest)
    else (if is_sign b then Lexeme 1
    else (if b == 38 then Lexeme (1 + label_len rest)
    else (if b == 34 then string_piece rest
    else (if b == 47 then slash_piece rest
    else Wrong BadChar)))))

-- the piece has a byte at least, and at most so many
abbrev pub Fits : Piece → ℕ → Type 0
Fits (Gap n) most = (0 < n) × (n ≤ most)
Fits (Lexeme n) most = (0 < n) × (n ≤ most)
Fits (Wrong flaw) most = Unit {0}
