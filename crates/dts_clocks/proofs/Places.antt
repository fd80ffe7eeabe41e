-- Elements by their places.
use Rattle.std.proofs.Common.{◌≡◌, ℕ, ◌+◌, ◌<◌, ◌≤◌, Bool, true, false, not, cond, nat_eq, nat_lt, List, [], ◌∷◌, ◌++◌, length, get_or, Some, None, ap, ◌∙◌, arith, take}
use Rattle.std.specs.List.{position, position_or_len}
use Rattle.std.specs.Option.{option_or}
use Rattle.std.proofs.lemmas.Bool.Decides.{nat_tests}
use Rattle.std.proofs.lemmas.List.{length_push, length-take-le, take_more}
use Rattle.std.proofs.lemmas.List.Folds.{position_or_len_push}
use Rattle.std.proofs.lemmas.List.Sums.{prefix_len-le-length}

first_or_next : (q n : ℕ) (b : Bool) → q ≤ n
    → cond (nat_lt (cond (nat_eq q n) (n + cond b 0 1) q) (n + 1)) (Some (cond (nat_eq q n) (n + cond b 0 1) q)) None ≡ option_or (cond (nat_lt q n) (Some q) None) (cond b (Some n) None)
first_or_next q n true h = grind (arith, nat_tests)
first_or_next q n false h = grind (arith, nat_tests)

-- the first place that passes, among one element more
pub position_push : {X : Type 0} (p : X → Bool) (xs : List X) (y : X) → position p (xs ++ y ∷ []) ≡ option_or (position p xs) (cond (p y) (Some (length xs)) None)
position_push p xs y = rw (position_or_len_push p xs y, length_push xs y) (first_or_next (position_or_len p xs) (length xs) (p y) (prefix_len-le-length (λ x. not (p x)) xs))

-- the first place among one element more of a list
pub position_more : {X : Type 0} (p : X → Bool) (xs : List X) (k : ℕ) (d : X) → k < length xs → position p (take (k + 1) xs) ≡ option_or (position p (take k xs)) (cond (p (get_or xs k d)) (Some k) None)
position_more p xs k d low =
    ap (position p) (take_more xs k d low) ∙ (position_push p (take k xs) (get_or xs k d) ∙ ap (λ n. option_or (position p (take k xs)) (cond (p (get_or xs k d)) (Some n) None)) (length-take-le k xs (omega arith)))
