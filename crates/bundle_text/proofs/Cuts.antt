-- A text is its first line and the lines of what follows the line feed.
use Rattle.std.proofs.Common.{◌≡◌, ℕ, ◌+◌, ◌<◌, ◌≤◌, ◌==◌, Bool, true, false, cond, not, List, [], ◌∷◌, ◌++◌, length, take, drop, Some, None, refl, sym, ap, ◌∙◌, append_assoc, arith}
use Rattle.std.specs.List.{slice_split, onto_first, position, position_or_len}
use Rattle.std.specs.Str.Lines.{lines, lines_of_parts, strip_carriage_return}
use Rattle.std.proofs.lemmas.List.Splits.{slice_split_first}
use Rattle.std.proofs.lemmas.Bool.Decides.{nat_tests}
use Rattle.std.proofs.lemmas.Str.{is_utf8-from_IsUtf8, IsUtf8-from_is_utf8}
use Rattle.std.specs.Str.{IsUtf8, is_utf8}
use Rattle.bundle_text.specs.Words.{spaced_words}

-- a list at none of whose elements it is cut is one part
pub slice_split-uncut : {X : Type 0} (p : X → Bool) (xs : List X) → length xs ≤ position_or_len p xs → slice_split p xs ≡ xs ∷ []
slice_split-uncut p [] h = refl
slice_split-uncut p (x ∷ xs) h =
    elim (p x) as (λ b. length (x ∷ xs) ≤ cond (not b) (1 + position_or_len p xs) 0 → cond b ([] ∷ slice_split p xs) (onto_first x (slice_split p xs)) ≡ (x ∷ xs) ∷ [])
    [ true ↦ λ le. absurd (omega (arith, le)) | false ↦ λ le. ap (onto_first x) (slice_split-uncut p xs (omega (arith, le))) ] h

-- there is always a part
pub slice_split-some : {X : Type 0} (p : X → Bool) (xs : List X) → (part : List X) × (parts : List (List X)) × (slice_split p xs ≡ part ∷ parts)
slice_split-some p [] = ([], [], refl)
slice_split-some p (x ∷ xs) =
    let rest = slice_split-some p xs in
    elim (p x) as (λ b. (part : _) × (parts : _) × (cond b ([] ∷ slice_split p xs) (onto_first x (slice_split p xs)) ≡ part ∷ parts))
    [ true ↦ ([], slice_split p xs, refl) | false ↦ (x ∷ rest.0, rest.1, ap (onto_first x) rest.2) ]

-- a part before a cut loses its carriage return
pub lines_of_parts-cons : (x : List ℕ) (parts : List (List ℕ)) (y : List ℕ) (more : List (List ℕ)) → parts ≡ y ∷ more → lines_of_parts (x ∷ parts) ≡ strip_carriage_return x ∷ lines_of_parts parts
lines_of_parts-cons x parts y more e =
    ap (λ ps. lines_of_parts (x ∷ ps)) e ∙ ap (λ ps. strip_carriage_return x ∷ lines_of_parts ps) (sym e)

-- the place of the first element that passes, where one does
pub position-at : {X : Type 0} (p : X → Bool) (xs : List X) (at : ℕ) → position p xs ≡ Some at → (position_or_len p xs < length xs) × (position_or_len p xs ≡ at)
position-at p xs at h = grind (arith, nat_tests)

-- no element passes
pub position-none : {X : Type 0} (p : X → Bool) (xs : List X) → position p xs ≡ None → length xs ≤ position_or_len p xs
position-none p xs h = grind (arith, nat_tests)

-- the first line, and the lines behind its line feed
pub lines-cut : (bs : List ℕ) (at : ℕ) → position (λ b. b == 10) bs ≡ Some at → lines bs ≡ strip_carriage_return (take at bs) ∷ lines (drop (at + 1) bs)
lines-cut bs at h =
    let p : ℕ → Bool = λ b. b == 10 in
    let n = position_or_len p bs in
    let found : (n < length bs) × (n ≡ at) = position-at p bs at h in
    let rest = slice_split-some p (drop (at + 1) bs) in
    let parts : slice_split p bs ≡ take n bs ∷ slice_split p (drop (n + 1) bs) = slice_split_first p bs 0 found.0 in
    let parts_at : slice_split p bs ≡ take at bs ∷ slice_split p (drop (at + 1) bs) = parts ∙ ap (λ k. take k bs ∷ slice_split p (drop (k + 1) bs)) found.1 in
    ap lines_of_parts parts_at ∙ lines_of_parts-cons (take at bs) _ rest.0 rest.1 rest.2

-- a text without a line feed is one line, unless it is empty
pub lines-uncut : (bs : List ℕ) → position (λ b. b == 10) bs ≡ None → lines bs ≡ cond (length bs == 0) [] (bs ∷ [])
lines-uncut bs h = ap lines_of_parts (slice_split-uncut (λ b. b == 10) bs (position-none (λ b. b == 10) bs h))

-- what was found so far and the lines of the rest are all lines, through one more
pub lines-more : (found : List (List ℕ)) (rest : List ℕ) (at : ℕ) (all : List (List ℕ)) → found ++ lines rest ≡ all → position (λ b. b == 10) rest ≡ Some at
    → (found ++ strip_carriage_return (take at rest) ∷ []) ++ lines (drop (at + 1) rest) ≡ all
lines-more found rest at all was h =
    append_assoc found (strip_carriage_return (take at rest) ∷ []) (lines (drop (at + 1) rest)) ∙ ap (λ ls. found ++ ls) (sym (lines-cut rest at h)) ∙ was

-- the words of a line that is UTF-8
pub spaced_words-utf8 : (line : List ℕ) → IsUtf8 line → spaced_words line ≡ slice_split (λ b. b == 32) line
unfolding spaced_words
spaced_words-utf8 line h = rw (is_utf8-from_IsUtf8 line h)

-- a line that isn't UTF-8 has no words
pub spaced_words-other : (line : List ℕ) → ¬ (IsUtf8 line) → spaced_words line ≡ []
unfolding spaced_words
spaced_words-other line h =
    elim (is_utf8 line) as (λ b. is_utf8 line ≡ b → cond b (slice_split (λ x. x == 32) line) [] ≡ [])
    [ true ↦ λ e. absurd (h (IsUtf8-from_is_utf8 line e)) | false ↦ λ e. refl ] refl

-- what was found so far and the rest, which has no line feed and isn't empty, are all lines
pub lines-last : (found : List (List ℕ)) (rest : List ℕ) (all : List (List ℕ)) → found ++ lines rest ≡ all → position (λ b. b == 10) rest ≡ None → (length rest == 0) ≡ false
    → found ++ rest ∷ [] ≡ all
lines-last found rest all was h some =
    ap (λ ls. found ++ ls) (sym (lines-uncut rest h ∙ ap (λ b. cond b [] (rest ∷ [])) some)) ∙ was
