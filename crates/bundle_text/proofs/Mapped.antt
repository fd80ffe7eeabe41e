-- Tests over the elements of a list, and over what the elements are mapped to.
use Rattle.std.proofs.Common.{◌≡◌, ℕ, ◌+◌, Bool, cond, ltb, not, ◌||◌, List, [], ◌∷◌, map, length, Some, None, refl, ap, sym, ◌∙◌}
use Rattle.std.specs.Borrow.{Bor}
use Rattle.std.specs.List.{list_any, list_all, position, position_or_len, prefix_len}
use Rattle.std.proofs.lemmas.List.{length-map}
use Rattle.std.proofs.lemmas.List.Folds.{list_all-map}
use Rattle.bundle_text.specs.Words.{texts}

pub list_any-map : {X Y : Type 0} (p : Y → Bool) (f : X → Y) (xs : List X) → list_any p (map f xs) ≡ list_any (λ x. p (f x)) xs
list_any-map p f [] = refl
list_any-map p f (x ∷ xs) = ap (λ b. p (f x) || b) (list_any-map p f xs)

pub prefix_len-map : {X Y : Type 0} (p : Y → Bool) (f : X → Y) (xs : List X) → prefix_len p (map f xs) ≡ prefix_len (λ x. p (f x)) xs
prefix_len-map p f [] = refl
prefix_len-map p f (x ∷ xs) = ap (λ n. cond (p (f x)) (1 + n) 0) (prefix_len-map p f xs)

pub position_or_len-map : {X Y : Type 0} (p : Y → Bool) (f : X → Y) (xs : List X) → position_or_len p (map f xs) ≡ position_or_len (λ x. p (f x)) xs
position_or_len-map p f xs = prefix_len-map (λ y. not (p y)) f xs

pub position-map : {X Y : Type 0} (p : Y → Bool) (f : X → Y) (xs : List X) → position p (map f xs) ≡ position (λ x. p (f x)) xs
position-map p f xs =
    ap (λ n. cond (ltb n (length (map f xs))) (Some n) None) (position_or_len-map p f xs)
    ∙ ap (λ m. cond (ltb (position_or_len (λ x. p (f x)) xs) m) (Some (position_or_len (λ x. p (f x)) xs)) None) (length-map xs f)

-- ## Borrowed words, and their texts

pub list_any-texts : (p : List ℕ → Bool) (words : List (Bor (List ℕ))) → list_any (λ w. p w.now) words ≡ list_any p (texts words)
list_any-texts p words = sym (list_any-map p (λ (w : Bor (List ℕ)). w.now) words)

pub list_all-texts : (p : List ℕ → Bool) (words : List (Bor (List ℕ))) → list_all (λ w. p w.now) words ≡ list_all p (texts words)
list_all-texts p words = sym (list_all-map p (λ (w : Bor (List ℕ)). w.now) words)

pub position_or_len-texts : (p : List ℕ → Bool) (words : List (Bor (List ℕ))) → position_or_len (λ w. p w.now) words ≡ position_or_len p (texts words)
position_or_len-texts p words = sym (position_or_len-map p (λ (w : Bor (List ℕ)). w.now) words)

pub position-texts : (p : List ℕ → Bool) (words : List (Bor (List ℕ))) → position (λ w. p w.now) words ≡ position p (texts words)
position-texts p words = sym (position-map p (λ (w : Bor (List ℕ)). w.now) words)
