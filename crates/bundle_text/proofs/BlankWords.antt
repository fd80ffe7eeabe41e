-- The words between blanks, part by part.
use Rattle.std.proofs.Common.{◌≡◌, ◌==◌, ap, ℕ, Bool, true, false, List, length, Some, None, ◌&&◌, not, if◌then◌else◌, refl}
use Rattle.std.specs.List.{filter_map, slice_split}
use Rattle.std.specs.Str.{IsUtf8, is_utf8}
use Rattle.std.proofs.lemmas.Str.{is_utf8-from_IsUtf8, IsUtf8-from_is_utf8}
use Rattle.bundle_text.specs.Words.{is_blank, as_word, blank_words}

pub as_word-utf8 : (part : List ℕ) → (length part == 0) ≡ false → IsUtf8 part → as_word part ≡ Some part
unfolding as_word
as_word-utf8 part some h = rw some (rw (is_utf8-from_IsUtf8 part h) refl)

pub other-utf8 : (part : List ℕ) → ¬ (IsUtf8 part) → is_utf8 part ≡ false
other-utf8 part h =
    elim (is_utf8 part) as (λ b. is_utf8 part ≡ b → b ≡ false)
    [ true ↦ λ e. absurd (h (IsUtf8-from_is_utf8 part e)) | false ↦ λ e. refl ] refl

none-both : (b : Bool) (part : List ℕ) → (if b && false then Some part else None) ≡ None
none-both true part = refl
none-both false part = refl

pub as_word-other : (part : List ℕ) → ¬ (IsUtf8 part) → as_word part ≡ None
unfolding as_word
as_word-other part h = rw (other-utf8 part h) (none-both (not (length part == 0)) part)

-- the words of all parts
pub words-first : (parts : List (List ℕ)) (line : List ℕ) → parts ≡ slice_split is_blank line → filter_map as_word parts ≡ blank_words line
unfolding blank_words
words-first parts line e = ap (filter_map as_word) e
