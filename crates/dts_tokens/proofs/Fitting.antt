-- Each piece has a byte at least, and lies within its text.
use Rattle.std.proofs.Common.{◌≡◌, ℕ, suc, ◌+◌, ◌&&◌, ◌<◌, ◌≤◌, ◌==◌, nat_eq, Bool, true, false, cond, not, List, [], ◌∷◌, length, drop, codes, slice_index, Option, Some, None, refl, arith, length-drop}
use Rattle.std.specs.List.{starts_with, prefix_len}
use Rattle.std.specs.Option.{option_map, option_map_or}
use Rattle.std.proofs.lemmas.List.Sums.{prefix_len-le-length}
use Rattle.dts_tokens.specs.declared.piece.Piece.{Piece}
use Rattle.dts_tokens.specs.declared.piece.Piece.TheVariants.{Gap, Lexeme, Wrong}
use Rattle.dts_tokens.specs.declared.flaw.Flaw.TheVariants.{OpenString, OpenComment}
use Rattle.dts_tokens.specs.Characters.{is_blank, is_label_character, is_word_character, is_sign}
use Rattle.dts_tokens.specs.Pieces.{word_len, label_len, line_len, comment_end, quote_end, slash_piece, string_piece, piece_at, Fits}

-- an end that lies within the text
abbrev EndsWithin : Option ℕ → ℕ → Type 0
EndsWithin None most = Unit {0}
EndsWithin (Some n) most = n ≤ most

EndsWithin-more : (o : Option ℕ) (most : ℕ) → EndsWithin o most → EndsWithin (option_map (λ n. 1 + n) o) (suc most)
EndsWithin-more None most h = tt
EndsWithin-more (Some n) most h = omega arith

and_right : (a b : Bool) → (a && b) ≡ true → b ≡ true
and_right true b h = h
and_right false b h = absurd (let e : false ≡ true = h in cc)

-- no text begins with more than it has
starts-length : (xs p : List ℕ) → starts_with nat_eq xs p ≡ true → length p ≤ length xs
starts-length xs [] h = omega arith
starts-length [] (b ∷ p) h = absurd (let e : false ≡ true = h in cc)
starts-length (x ∷ xs) (b ∷ p) h = omega (arith, starts-length xs p (and_right (nat_eq b x) (starts_with nat_eq xs p) h))

past_end : (xs : List ℕ) → (slice_index xs 0 == 58) ≡ true → 0 < length xs
past_end [] h = absurd (let e : false ≡ true = h in cc)
past_end (x ∷ xs) h = omega arith

word_len-le : (text : List ℕ) → word_len text ≤ length text
unfolding word_len
word_len-le text =
    let run = prefix_len is_word_character text in
    let most : run ≤ length text = prefix_len-le-length is_word_character text in
    elim (slice_index (drop run text) 0 == 58) as (λ b. (slice_index (drop run text) 0 == 58) ≡ b → cond b (run + 1) run ≤ length text)
    [ true ↦ λ e. omega (arith, past_end (drop run text) e, length-drop run text) | false ↦ λ e. omega arith ] refl

label_len-le : (text : List ℕ) → label_len text ≤ length text
unfolding label_len
label_len-le text = prefix_len-le-length is_label_character text

line_len-le : (text : List ℕ) → line_len text ≤ length text
unfolding line_len
line_len-le text = prefix_len-le-length (λ b. not (b == 10)) text

comment_end-within : (text : List ℕ) → EndsWithin (comment_end text) (length text)
unfolding comment_end
comment_end-within [] = tt
comment_end-within (b ∷ rest) =
    elim (starts_with nat_eq (b ∷ rest) (codes "*/")) as (λ t. starts_with nat_eq (b ∷ rest) (codes "*/") ≡ t → EndsWithin (cond t (Some 2) (option_map (λ n. 1 + n) (comment_end rest))) (length (b ∷ rest)))
    [ true ↦ λ e. starts-length (b ∷ rest) (codes "*/") e | false ↦ λ e. EndsWithin-more (comment_end rest) (length rest) (comment_end-within rest) ] refl

quote_end-within : (taken : Bool) (text : List ℕ) → EndsWithin (quote_end taken text) (length text)
unfolding quote_end
quote_end-within taken [] = tt
quote_end-within true (b ∷ rest) = EndsWithin-more (quote_end false rest) (length rest) (quote_end-within false rest)
quote_end-within false (b ∷ rest) =
    elim (b == 34) as (λ t. EndsWithin (cond t (Some 1) (option_map (λ n. 1 + n) (quote_end (b == 92) rest))) (length (b ∷ rest)))
    [ true ↦ omega arith | false ↦ EndsWithin-more (quote_end (b == 92) rest) (length rest) (quote_end-within (b == 92) rest) ]

Fits-gap : (o : Option ℕ) (most : ℕ) → EndsWithin o most → Fits (option_map_or (λ n. Gap (2 + n)) o (Wrong OpenComment)) (suc (suc most))
Fits-gap None most h = tt
Fits-gap (Some n) most h = (omega arith, omega arith)

Fits-string : (o : Option ℕ) (most : ℕ) → EndsWithin o most → Fits (option_map_or (λ n. Lexeme (1 + n)) o (Wrong OpenString)) (suc most)
Fits-string None most h = tt
Fits-string (Some n) most h = (omega arith, omega arith)

-- a test between two pieces that fit
Fits-cond : (test : Bool) (p q : Piece) (most : ℕ) → (test ≡ true → Fits p most) → Fits q most → Fits (cond test p q) most
Fits-cond true p q most left right = left refl
Fits-cond false p q most left right = right

drop_one : (xs : List ℕ) → 1 ≤ length xs → suc (length (drop 1 xs)) ≡ length xs
drop_one [] h = absurd (omega arith)
drop_one (x ∷ xs) h = refl

slash_piece-fits : (rest : List ℕ) → Fits (slash_piece rest) (suc (length rest))
unfolding slash_piece
slash_piece-fits rest =
    Fits-cond (starts_with nat_eq rest (codes "/")) _ _ _ (λ e. (omega arith, omega (arith, line_len-le rest)))
    (Fits-cond (starts_with nat_eq rest (codes "*")) _ _ _ (λ e. rw (← drop_one rest (starts-length rest (codes "*") e)) (Fits-gap (comment_end (drop 1 rest)) _ (comment_end-within (drop 1 rest))))
    (Fits-cond (starts_with nat_eq rest (codes "dts-v1/")) _ _ _ (λ e. (omega arith, omega (arith, starts-length rest (codes "dts-v1/") e)))
    (Fits-cond (starts_with nat_eq rest (codes "memreserve/")) _ _ _ (λ e. (omega arith, omega (arith, starts-length rest (codes "memreserve/") e)))
    (omega arith, omega arith))))

string_piece-fits : (rest : List ℕ) → Fits (string_piece rest) (suc (length rest))
unfolding string_piece
string_piece-fits rest = Fits-string (quote_end false rest) (length rest) (quote_end-within false rest)

-- what stands at the front of a text lies within it
pub piece_at-fits : (text : List ℕ) → 0 < length text → Fits (piece_at text) (length text)
unfolding piece_at
piece_at-fits [] some = absurd (omega arith)
piece_at-fits (b ∷ rest) some =
    Fits-cond (is_blank b) _ _ _ (λ e. (omega arith, omega arith))
    (Fits-cond (is_word_character b) _ _ _ (λ e. (omega arith, omega (arith, word_len-le rest)))
    (Fits-cond (is_sign b) _ _ _ (λ e. (omega arith, omega arith))
    (Fits-cond (b == 38) _ _ _ (λ e. (omega arith, omega (arith, label_len-le rest)))
    (Fits-cond (b == 34) _ _ _ (λ e. string_piece-fits rest)
    (Fits-cond (b == 47) _ _ _ (λ e. slash_piece-fits rest) tt)))))
