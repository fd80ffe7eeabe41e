-- The tokens of a text, or the first place at which it can't be cut.
use Rattle.std.specs.Prelude.{◌≡◌, ℕ, ◌+◌, ◌-◌, ◌<◌, ◌≤◌, ◌==◌, List, [], ◌∷◌, ◌++◌, length, drop, take, map, count_by, slice_index, slice_range, IsUtf8, if◌then◌else◌}
use Rattle.dts_tokens.specs.declared.flaw.Flaw.{Flaw}
use Rattle.dts_tokens.specs.declared.flaw.Flaw.TheVariants as flaws
use Rattle.dts_tokens.specs.declared.piece.Piece.{Piece}
use Rattle.dts_tokens.specs.declared.piece.Piece.TheVariants.{Gap, Lexeme, Wrong}
use Rattle.dts_tokens.specs.declared.token.Token.{Token}
use Rattle.dts_tokens.specs.declared.token.TokenFault.{TokenFault}
use Rattle.dts_tokens.specs.declared.token.TokenFault.TheVariants as faults
use Rattle.dts_tokens.specs.Limits.{is_too_big}
use Rattle.dts_tokens.specs.Pieces.{piece_at}

-- the line of a place: one more than the line feeds before it
abbrev pub line_of : List ℕ → ℕ → ℕ
line_of text at = 1 + count_by (λ b. b == 10) (take at text)

-- the token of so many bytes at a place
abbrev pub token_of : List ℕ → ℕ → ℕ → Token
token_of text at n = record { from = at; to = at + n; line = line_of text at }

-- the text of a token is its slice
abbrev pub text_of : List ℕ → Token → List ℕ
text_of text token = slice_range text token.from token.to

-- a token that is too big a number behind these words is a flaw
abbrev pub weighed : List (List ℕ) → List ℕ → Piece → Piece
weighed words rest (Gap n) = Gap n
weighed words rest (Lexeme n) = if is_too_big words (take n rest) then Wrong flaws.NumberTooBig else Lexeme n
weighed words rest (Wrong flaw) = Wrong flaw

-- what stands at a place of the text, behind these tokens
unfoldable pub standing : List ℕ → List Token → ℕ → Piece
standing text found at = weighed (map (text_of text) found) (drop at text) (piece_at (drop at text))

-- behind these tokens, and from this place on, the text is cut into these pieces: each is what stands where the one before it ends, and none is a flaw; so all these tokens are found, and this place is reached
abbrev pub Cuts : List ℕ → List Token → ℕ → List Piece → List Token → ℕ → Type 0
Cuts text found at [] all end = (found ≡ all) × (at ≡ end)
Cuts text found at (Gap n ∷ pieces) all end = (at < length text) × (standing text found at ≡ Gap n) × Cuts text found (at + n) pieces all end
Cuts text found at (Lexeme n ∷ pieces) all end = (at < length text) × (standing text found at ≡ Lexeme n) × Cuts text (found ++ token_of text at n ∷ []) (at + n) pieces all end
Cuts text found at (Wrong flaw ∷ pieces) all end = ⊥

-- these tokens, with blanks and comments, are the whole text
abbrev pub Tokens : List ℕ → List Token → Type 0
Tokens text found = (pieces : List Piece) × Cuts text [] 0 pieces found (length text)

-- the text is cut up to a place at which a flaw stands
pub record Refuses (text : List ℕ) (flaw : Flaw) (line : ℕ) : Type 0 where
  pub pieces : List Piece
  pub found : List Token
  pub at : ℕ
  pub cuts : Cuts text [] 0 pieces found at
  pub within : at < length text
  pub stands : standing text found at ≡ Wrong flaw
  pub there : line ≡ line_of text at

-- the fault is the first flaw of the text, with its line; want of memory says nothing of the text
abbrev pub IsFaultOf : List ℕ → TokenFault → Type 0
IsFaultOf text (faults.BadChar line) = Refuses text flaws.BadChar line
IsFaultOf text (faults.OpenString line) = Refuses text flaws.OpenString line
IsFaultOf text (faults.OpenComment line) = Refuses text flaws.OpenComment line
IsFaultOf text (faults.NumberTooBig line) = Refuses text flaws.NumberTooBig line
IsFaultOf text faults.NoMemory = Unit {0}

-- each token has a byte at least, and begins where the one before ends or behind; the last ends within the text
abbrev pub Rises : ℕ → List Token → ℕ → Type 0
Rises from [] end = from ≤ end
Rises from (token ∷ tokens) end = (from ≤ token.from) × (token.from < token.to) × Rises token.to tokens end

-- a token is of whole characters, and one that begins with a quote also between its first byte and its last
abbrev pub IsWhole : List ℕ → Token → Type 0
IsWhole text token = IsUtf8 (text_of text token) × (slice_index (text_of text token) 0 ≡ 34 → IsUtf8 (slice_range text (token.from + 1) (token.to - 1)))
