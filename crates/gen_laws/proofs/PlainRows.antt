-- A row of plain words as a line: it is text without line feeds, and gives its words back.
use Rattle.std.proofs.Common.{◌≡◌, ℕ, ◌<◌, ◌==◌, not, true, false, List, [], ◌∷◌, ◌++◌, length, Some, refl, sym, ap, ◌∙◌, append_assoc, arith}
use Rattle.std.specs.List.{list_all, slice_split, filter_map, AllByRecursion}
use Rattle.std.specs.Str.{IsAscii, is_utf8}
use Rattle.std.proofs.lemmas.Bool.{and_parts}
use Rattle.std.proofs.lemmas.Bool.Decides.{nat_tests}
use Rattle.std.proofs.lemmas.List.{append-nil}
use Rattle.std.proofs.lemmas.List.Elements.{All-from_recursion}
use Rattle.std.proofs.lemmas.List.Splits.{slice_split_at, slice_split_none}
use Rattle.std.proofs.lemmas.Str.{is_utf8-from_IsUtf8, IsUtf8-from_ascii, IsAscii-append}
use Rattle.std.proofs.lemmas.Str.Ascii.{IsAscii-nil, IsAscii-cons}
use Rattle.bundle_text.specs.Names.{is_seen}
use Rattle.bundle_text.specs.Words.{is_blank, as_word, blank_words, is_comment, said_words}
use Rattle.gen_laws.specs.Rows.{is_plain, are_plain, behind_spaces, row_before, row_text}

-- what is seen is no blank
blank-seen : (b : ℕ) → is_seen b ≡ true → is_blank b ≡ false
blank-seen b h = grind (arith, nat_tests)

-- what is seen is a character of ASCII
ascii-seen : (b : ℕ) → is_seen b ≡ true → b < 128
ascii-seen b h = grind (arith, nat_tests)

-- no character of a plain word is a blank
pub no_blanks : (word : List ℕ) → list_all is_seen word ≡ true → AllByRecursion (λ b. is_blank b ≡ false) word
no_blanks [] h = tt
no_blanks (b ∷ word) h =
    let parts = and_parts (is_seen b) (list_all is_seen word) h in
    (blank-seen b parts.0, no_blanks word parts.1)

-- characters that are seen are ASCII
pub seen-ascii : (word : List ℕ) → list_all is_seen word ≡ true → IsAscii word
seen-ascii [] h = IsAscii-nil
seen-ascii (b ∷ word) h =
    let parts = and_parts (is_seen b) (list_all is_seen word) h in
    IsAscii-cons b word (ascii-seen b parts.0) (seen-ascii word parts.1)

-- the line of plain words is ASCII
pub behind-ascii : (words : List (List ℕ)) → are_plain words ≡ true → IsAscii (behind_spaces words [])
behind-ascii [] h = IsAscii-nil
behind-ascii (word ∷ words) h =
    let parts = and_parts (is_plain word) (are_plain words) h in
    let seen = and_parts (not (length word == 0)) (list_all is_seen word) parts.0 in
    IsAscii-cons 32 _ (omega arith) (IsAscii-append word (behind_spaces words []) (seen-ascii word seen.1) (behind-ascii words parts.1))

pub row-ascii : (row : List (List ℕ)) → are_plain row ≡ true → IsAscii (row_text row)
row-ascii [] h = IsAscii-nil
row-ascii (word ∷ words) h =
    let parts = and_parts (is_plain word) (are_plain words) h in
    let seen = and_parts (not (length word == 0)) (list_all is_seen word) parts.0 in
    IsAscii-append word (behind_spaces words []) (seen-ascii word seen.1) (behind-ascii words parts.1)

pub row-utf8 : (row : List (List ℕ)) → are_plain row ≡ true → is_utf8 (row_text row) ≡ true
row-utf8 row h = is_utf8-from_IsUtf8 (row_text row) (IsUtf8-from_ascii (row_text row) (row-ascii row h))

-- a row of plain words is cut into them at its blanks
pub row-split : (word : List ℕ) (words : List (List ℕ)) → is_plain word ≡ true → are_plain words ≡ true → slice_split is_blank (row_text (word ∷ words)) ≡ word ∷ words
row-split word [] h hs =
    let seen = and_parts (not (length word == 0)) (list_all is_seen word) h in
    let clear = All-from_recursion (λ b. is_blank b ≡ false) word (no_blanks word seen.1) in
    ap (slice_split is_blank) (append-nil word) ∙ slice_split_none is_blank word clear
row-split word (next ∷ words) h hs =
    let seen = and_parts (not (length word == 0)) (list_all is_seen word) h in
    let parts = and_parts (is_plain next) (are_plain words) hs in
    let clear = All-from_recursion (λ b. is_blank b ≡ false) word (no_blanks word seen.1) in
    slice_split_at is_blank word 32 (row_text (next ∷ words)) clear refl ∙ ap (λ ws. word ∷ ws) (row-split next words parts.0 parts.1)

-- a plain word is a word of a line
plain-word : (word : List ℕ) → is_plain word ≡ true → as_word word ≡ Some word
unfolding as_word
plain-word word h =
    let seen = and_parts (not (length word == 0)) (list_all is_seen word) h in
    let utf8 : is_utf8 word ≡ true = is_utf8-from_IsUtf8 word (IsUtf8-from_ascii word (seen-ascii word seen.1)) in
    rw seen.0 (rw utf8 refl)

plain-words : (words : List (List ℕ)) → are_plain words ≡ true → filter_map as_word words ≡ words
plain-words [] h = refl
plain-words (word ∷ words) h =
    let parts = and_parts (is_plain word) (are_plain words) h in
    rw (plain-word word parts.0) (ap (λ ws. word ∷ ws) (plain-words words parts.1))

-- a row of plain words gives them back
pub row-words : (row : List (List ℕ)) → are_plain row ≡ true → blank_words (row_text row) ≡ row
unfolding blank_words as_word
row-words [] h = refl
row-words (word ∷ words) h =
    let parts = and_parts (is_plain word) (are_plain words) h in
    ap (filter_map as_word) (row-split word words parts.0 parts.1) ∙ plain-words (word ∷ words) h

-- a row that is no comment says its words
pub row-said : (row : List (List ℕ)) → are_plain row ≡ true → is_comment row ≡ false → said_words (row_text row) ≡ row
unfolding said_words
row-said row h plain = rw (row-words row h) (rw plain refl)

-- what stands behind a row
pub row-tail : (row : List (List ℕ)) (tail : List ℕ) → row_before row tail ≡ row_text row ++ tail
row-tail [] tail = refl
row-tail (word ∷ words) tail = ap (λ xs. word ++ xs) (behind-tail words tail) ∙ sym (append_assoc word (behind_spaces words []) tail)
  where
    behind-tail : (words : List (List ℕ)) (tail : List ℕ) → behind_spaces words tail ≡ behind_spaces words [] ++ tail
    behind-tail [] tail = refl
    behind-tail (word ∷ words) tail = ap (λ xs. 32 ∷ (word ++ xs)) (behind-tail words tail) ∙ ap (λ xs. 32 ∷ xs) (sym (append_assoc word (behind_spaces words []) tail))
