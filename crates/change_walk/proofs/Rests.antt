-- Lists that are gone through place by place: what is done with what is left makes the whole.
use Rattle.std.proofs.Common.{◌≡◌, ℕ, zero, suc, ◌+◌, ◌++◌, List, [], ◌∷◌, Some, refl, sym, ap, ◌∙◌, arith, drop, map, append_assoc}
use Rattle.std.specs.Prelude.{flat_map, option_map, slice_get}
use Rattle.std.proofs.lemmas.Option.{slice_get-map}

pub drop_none : {X : Type 0} (xs : List X) → drop 0 xs ≡ xs
drop_none [] = refl
drop_none (x ∷ xs) = refl

-- what stands at a place is the first of what is left there
pub rest_at : {X : Type 0} (xs : List X) (k : ℕ) (x : X) → slice_get xs k ≡ Some x → drop k xs ≡ x ∷ drop (k + 1) xs
rest_at [] k x at = absurd cc
rest_at (y ∷ xs) zero x at = let same : y ≡ x = cc in ap (λ z. z ∷ xs) same ∙ ap (λ ys. x ∷ ys) (sym (drop_none xs))
rest_at (y ∷ xs) (suc k) x at = rest_at xs k x at ∙ ap (λ (n : ℕ). x ∷ drop n (y ∷ xs)) (let next : suc (k + 1) ≡ suc k + 1 = omega arith in next)

-- one more was added
pub added_on : {X Y : Type 0} (f : X → List Y) (xs : List X) (k : ℕ) (x : X) (old new whole : List Y) → slice_get xs k ≡ Some x → new ≡ old ++ f x
    → old ++ flat_map f (drop k xs) ≡ whole → new ++ flat_map f (drop (k + 1) xs) ≡ whole
added_on f xs k x old new whole at one all =
    ap (λ ys. ys ++ flat_map f (drop (k + 1) xs)) one
    ∙ append_assoc old (f x) (flat_map f (drop (k + 1) xs))
    ∙ ap (λ ys. old ++ flat_map f ys) (sym (rest_at xs k x at))
    ∙ all

-- one more element was pushed
pub pushed_on : {X Y : Type 0} (f : X → Y) (xs : List X) (k : ℕ) (x : X) (old new whole : List Y) → slice_get xs k ≡ Some x → new ≡ old ++ f x ∷ []
    → old ++ map f (drop k xs) ≡ whole → new ++ map f (drop (k + 1) xs) ≡ whole
pushed_on f xs k x old new whole at one all =
    ap (λ ys. ys ++ map f (drop (k + 1) xs)) one
    ∙ append_assoc old (f x ∷ []) (map f (drop (k + 1) xs))
    ∙ ap (λ ys. old ++ map f ys) (sym (rest_at xs k x at))
    ∙ all

-- some were added, and then others
pub added_then : {X : Type 0} (old mid new some rest : List X) → mid ≡ old ++ some → new ≡ mid ++ rest → new ≡ old ++ (some ++ rest)
added_then old mid new some rest one more = more ∙ ap (λ ys. ys ++ rest) one ∙ append_assoc old some rest

-- and so of what they are made into
pub rest_of : {X Y : Type 0} (f : X → Y) (xs : List X) (k : ℕ) (x : X) → slice_get xs k ≡ Some x → drop k (map f xs) ≡ f x ∷ drop (k + 1) (map f xs)
rest_of f xs k x at = rest_at (map f xs) k (f x) (slice_get-map f xs k ∙ ap (option_map f) at)
