-- Names and identifiers in pairs.
use Rattle.std.proofs.Common.{◌≡◌, ℕ, ◌≤◌, List, [], ◌∷◌, ◌++◌, length, map, drop, drop_of_length-le, refl, sym, ap, ◌∙◌}
use Rattle.std.specs.List.{zip}
use Rattle.std.proofs.lemmas.List.{append-nil}

-- nothing pairs with nothing
zip-none : {X Y : Type 0} (xs : List X) → zip {K = X} {X = Y} xs [] ≡ []
zip-none [] = refl
zip-none (x ∷ xs) = refl

-- past the last identifier no pair is left
pub paired : {X Y Z : Type 0} (f : (X × Y) → Z) (xs : List X) (ys : List Y) (i : ℕ) (found all : List Z) → length ys ≤ i → found ++ map f (zip xs (drop i ys)) ≡ all → found ≡ all
paired f xs ys i found all past e =
    sym (append-nil found) ∙ (ap (λ ps. found ++ map f ps) (sym (ap (zip xs) (drop_of_length-le ys past) ∙ zip-none xs)) ∙ e)
