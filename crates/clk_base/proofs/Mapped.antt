-- What is found in a list whose elements were mapped.
use Rattle.std.proofs.Common.{◌≡◌, ◌+◌, Bool, ◌||◌, cond, List, [], ◌∷◌, map, length, Some, None, refl, ap, ◌∙◌, ltb}
use Rattle.std.specs.List.{list_any, position, position_or_len, prefix_len}
use Rattle.std.proofs.lemmas.List.{length-map}

pub list_any-map : {X Y : Type 0} (p : Y → Bool) (f : X → Y) (xs : List X) → list_any p (map f xs) ≡ list_any (λ x. p (f x)) xs
list_any-map p f [] = refl
list_any-map p f (x ∷ xs) = ap (λ b. p (f x) || b) (list_any-map p f xs)

pub prefix_len-map : {X Y : Type 0} (p : Y → Bool) (f : X → Y) (xs : List X) → prefix_len p (map f xs) ≡ prefix_len (λ x. p (f x)) xs
prefix_len-map p f [] = refl
prefix_len-map p f (x ∷ xs) = ap (λ n. cond (p (f x)) (1 + n) 0) (prefix_len-map p f xs)

pub position-map : {X Y : Type 0} (p : Y → Bool) (f : X → Y) (xs : List X) → position p (map f xs) ≡ position (λ x. p (f x)) xs
position-map p f xs =
    let same : position_or_len p (map f xs) ≡ position_or_len (λ x. p (f x)) xs = prefix_len-map _ f xs in
    ap (λ n. cond (ltb n (length (map f xs))) (Some n) None) same
    ∙ ap (λ m. cond (ltb (position_or_len (λ x. p (f x)) xs) m) (Some (position_or_len (λ x. p (f x)) xs)) None) (length-map xs f)
