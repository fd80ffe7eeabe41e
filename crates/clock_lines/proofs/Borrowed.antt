-- Borrowed words and their texts, by their places.
use Rattle.std.proofs.Common.{◌≡◌, ℕ, ◌+◌, ◌<◌, Bool, ◌||◌, ◌&&◌, not, cond, ltb, arith, ◌≤◌, List, [], ◌∷◌, length, get_or, take, Some, None, refl, ap, sym, ◌∙◌}
use Rattle.std.specs.Borrow.{Bor}
use Rattle.std.proofs.lemmas.List.{length-map, get_or-map, take_all}
use Rattle.bundle_text.specs.Words.{texts}

-- the text of a borrowed word
pub texts-at : (words : List (Bor (List ℕ))) (i : ℕ) (d : Bor (List ℕ)) → i < length words → get_or (texts words) i [] ≡ (get_or words i d).now
texts-at words i d within = get_or-map (λ (w : Bor (List ℕ)). w.now) words i d [] within

pub texts-within : (words : List (Bor (List ℕ))) (i : ℕ) → i < length words → i < length (texts words)
texts-within words i within = omega (arith, length-map words (λ (w : Bor (List ℕ)). w.now))

pub texts-whole : (words : List (Bor (List ℕ))) (i : ℕ) → length words ≤ i → take i (texts words) ≡ texts words
texts-whole words i behind = take_all i (texts words) (omega (arith, length-map words (λ (w : Bor (List ℕ)). w.now)))
