-- The lines of a text that rows of plain words make.
use Rattle.std.proofs.Common.{◌≡◌, ℕ, ◌-◌, ◌<◌, ◌==◌, not, Bool, true, false, cond, List, [], ◌∷◌, ◌++◌, length, take, map, get_or, refl, sym, ap, ◌∙◌, append_assoc, arith}
use Rattle.std.specs.List.{list_all, slice_split, AllByRecursion}
use Rattle.std.specs.Str.Lines.{lines, lines_of_parts, strip_carriage_return}
use Rattle.std.proofs.lemmas.Bool.{and_parts}
use Rattle.std.proofs.lemmas.Bool.Decides.{nat_tests}
use Rattle.std.proofs.lemmas.List.Elements.{All-from_recursion, All-get_or}
use Rattle.std.proofs.lemmas.List.Splits.{slice_split_at}
use Rattle.bundle_text.proofs.Cuts.{slice_split-some, lines_of_parts-cons}
use Rattle.bundle_text.specs.Names.{is_seen}
use Rattle.gen_laws.specs.Rows.{is_plain, are_plain, behind_spaces, row_text, rows_text}
use Rattle.gen_laws.proofs.PlainRows.{row-tail}

-- neither a line feed nor a carriage return
abbrev IsInside : ℕ → Type 0
IsInside b = ((b == 10) ≡ false) × ((b == 13) ≡ false)

inside-seen : (b : ℕ) → is_seen b ≡ true → IsInside b
inside-seen b h = (grind (arith, nat_tests), grind (arith, nat_tests))

inside-append : (xs ys : List ℕ) → list_all is_seen xs ≡ true → AllByRecursion IsInside ys → AllByRecursion IsInside (xs ++ ys)
inside-append [] ys h hs = hs
inside-append (x ∷ xs) ys h hs =
    let parts = and_parts (is_seen x) (list_all is_seen xs) h in
    (inside-seen x parts.0, inside-append xs ys parts.1 hs)

behind-inside : (words : List (List ℕ)) → are_plain words ≡ true → AllByRecursion IsInside (behind_spaces words [])
behind-inside [] h = tt
behind-inside (word ∷ words) h =
    let parts = and_parts (is_plain word) (are_plain words) h in
    let seen = and_parts (not (length word == 0)) (list_all is_seen word) parts.0 in
    ((refl, refl), inside-append word (behind_spaces words []) seen.1 (behind-inside words parts.1))

row-inside : (row : List (List ℕ)) → are_plain row ≡ true → AllByRecursion IsInside (row_text row)
row-inside [] h = tt
row-inside (word ∷ words) h =
    let parts = and_parts (is_plain word) (are_plain words) h in
    let seen = and_parts (not (length word == 0)) (list_all is_seen word) parts.0 in
    inside-append word (behind_spaces words []) seen.1 (behind-inside words parts.1)

no_feed : (xs : List ℕ) → AllByRecursion IsInside xs → AllByRecursion (λ b. (b == 10) ≡ false) xs
no_feed [] h = tt
no_feed (x ∷ xs) h = (h.0.0, no_feed xs h.1)

-- a line without a carriage return loses none
keeps_all : (xs : List ℕ) → AllByRecursion IsInside xs → strip_carriage_return xs ≡ xs
keeps_all [] h = refl
keeps_all (x ∷ xs) h =
    let last : ℕ = length (x ∷ xs) - 1 in
    let within : last < length (x ∷ xs) = omega arith in
    let inside : IsInside (get_or (x ∷ xs) last 0) = All-get_or IsInside (x ∷ xs) last 0 within (All-from_recursion IsInside (x ∷ xs) h) in
    ap (λ b. cond b (take last (x ∷ xs)) (x ∷ xs)) inside.1

-- a row's line, and the lines of what stands behind its line feed
pub lines-row : (line rest : List ℕ) → AllByRecursion IsInside line → lines (line ++ 10 ∷ rest) ≡ line ∷ lines rest
lines-row line rest h =
    let p : ℕ → Bool = λ b. b == 10 in
    let some = slice_split-some p rest in
    ap lines_of_parts (slice_split_at p line 10 rest (All-from_recursion (λ b. p b ≡ false) line (no_feed line h)) refl)
    ∙ (lines_of_parts-cons line (slice_split p rest) some.0 some.1 some.2 ∙ ap (λ l. l ∷ lines rest) (keeps_all line h))

-- the lines of the text are those of the rows
pub lines-rows : (rows : List (List (List ℕ))) → list_all are_plain rows ≡ true → lines (rows_text rows) ≡ map row_text rows
lines-rows [] h = refl
lines-rows (row ∷ rows) h =
    let parts = and_parts (are_plain row) (list_all are_plain rows) h in
    ap lines (row-tail row (10 ∷ rows_text rows)) ∙ (lines-row (row_text row) (rows_text rows) (row-inside row parts.0) ∙ ap (λ ls. row_text row ∷ ls) (lines-rows rows parts.1))

-- the text of rows behind others
pub text-append : (xs ys : List (List (List ℕ))) → rows_text (xs ++ ys) ≡ rows_text xs ++ rows_text ys
text-append [] ys = refl
text-append (row ∷ rows) ys =
    row-tail row (10 ∷ rows_text (rows ++ ys))
    ∙ (ap (λ t. row_text row ++ 10 ∷ t) (text-append rows ys)
    ∙ (sym (append_assoc (row_text row) (10 ∷ rows_text rows) (rows_text ys)) ∙ ap (λ t. t ++ rows_text ys) (sym (row-tail row (10 ∷ rows_text rows)))))
