-- What stands at the front of some texts, and how some words are read: computed by the definitions.
use Rattle.std.specs.Prelude.{◌≡◌, true, false, Some, None, [], ◌∷◌, codes, refl}
use Rattle.dts_tokens.specs.declared.flaw.Flaw.TheVariants as flaws
use Rattle.dts_tokens.specs.declared.piece.Piece.TheVariants.{Gap, Lexeme, Wrong}
use Rattle.dts_tokens.specs.Characters.{is_label_character, is_name_character, is_sign, is_word_character}
use Rattle.dts_tokens.specs.Limits.{is_too_big, most_behind}
use Rattle.dts_tokens.specs.Numbers.{base_of, digits_of, is_number, number_up_to, value_of}
use Rattle.dts_tokens.specs.Pieces.{comment_end, label_len, piece_at, quote_end, slash_piece, string_piece, word_len}

-- a label goes through its colon
pub label : piece_at (codes "osc: clk") ≡ Lexeme 4
unfolding piece_at word_len is_word_character is_name_character
label = refl

-- a name goes through its unit address
pub address : piece_at (codes "clk@10 {") ≡ Lexeme 6
unfolding piece_at word_len is_word_character is_name_character
address = refl

-- a comma belongs to a name, and not to a reference
pub reference : piece_at (codes "&a,b") ≡ Lexeme 2
unfolding piece_at label_len is_label_character is_sign is_word_character is_name_character
reference = refl

-- a comment ends at the first `*/` behind its `/*`
pub comment : piece_at (codes "/*/ */ */") ≡ Gap 6
unfolding piece_at slash_piece comment_end is_sign is_word_character is_name_character
comment = refl

-- a string goes on behind a quote that a backslash takes in: 92 is the backslash
pub string : piece_at (34 ∷ 92 ∷ 34 ∷ 34 ∷ 34 ∷ []) ≡ Lexeme 4
unfolding piece_at string_piece quote_end is_sign is_word_character is_name_character
string = refl

-- nothing begins with an exclamation mark
pub mark : piece_at (codes "!") ≡ Wrong flaws.BadChar
unfolding piece_at is_sign is_word_character is_name_character
mark = refl

-- a number behind a zero is octal
pub octal : number_up_to 100 (codes "010") ≡ Some 8
unfolding number_up_to is_number value_of base_of digits_of
octal = refl

-- a word that begins with a zero and has an eight is no number
pub eight : number_up_to 100 (codes "08") ≡ None
unfolding number_up_to is_number value_of base_of digits_of
eight = refl

-- a cell is at most 32 bits wide
pub cell : is_too_big (codes "<" ∷ codes "1" ∷ []) (codes "0x100000000") ≡ true
unfolding is_too_big most_behind is_number value_of base_of digits_of
cell = refl

-- behind `>` there are no cells
pub behind : is_too_big (codes "<" ∷ codes ">" ∷ []) (codes "0x100000000") ≡ false
unfolding is_too_big most_behind
behind = refl
