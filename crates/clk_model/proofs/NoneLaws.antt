-- Laws on tests that no step of a list passes.
use Rattle.std.proofs.Common.{◌≡◌, ◌||◌, Bool, true, false, cond, List, [], ◌∷◌, ◌++◌, refl, ap, ◌∙◌, map}
use Rattle.std.specs.Prelude.{flat_map}
use Rattle.std.specs.List.{list_any}
use Rattle.std.proofs.lemmas.List.Folds.{list_any-append}
use Rattle.clk_base.specs.declared.call.Micro.{Micro}

neither : (a b : Bool) → a ≡ false → b ≡ false → (a || b) ≡ false
neither a b e f = ap (λ (t : Bool). t || b) e ∙ f

pub none_append : (p : Micro → Bool) (xs ys : List Micro) → list_any p xs ≡ false → list_any p ys ≡ false → list_any p (xs ++ ys) ≡ false
none_append p xs ys e f = list_any-append p xs ys ∙ neither (list_any p xs) (list_any p ys) e f

pub none_map : {X : Type 0} (p : Micro → Bool) (f : X → Micro) (xs : List X) → ((x : X) → p (f x) ≡ false) → list_any p (map f xs) ≡ false
none_map p f [] none = refl
none_map p f (x ∷ xs) none = neither (p (f x)) (list_any p (map f xs)) (none x) (none_map p f xs none)

pub none_flat_map : {X : Type 0} (p : Micro → Bool) (f : X → List Micro) (xs : List X) → ((x : X) → list_any p (f x) ≡ false) → list_any p (flat_map f xs) ≡ false
none_flat_map p f [] none = refl
none_flat_map p f (x ∷ xs) none = none_append p (f x) (flat_map f xs) (none x) (none_flat_map p f xs none)

pub none_if : (p : Micro → Bool) (b : Bool) (xs ys : List Micro) → list_any p xs ≡ false → list_any p ys ≡ false → list_any p (cond b xs ys) ≡ false
none_if p true xs ys e f = e
none_if p false xs ys e f = f

-- a part in front, and the rest, pass nothing either
pub none_front : (p : Micro → Bool) (x : Micro) (xs : List Micro) → list_any p (x ∷ xs) ≡ false → p x ≡ false
none_front p x xs e = left (p x) (list_any p xs) e where
  left : (a b : Bool) → (a || b) ≡ false → a ≡ false
  left true b h = absurd cc
  left false b h = refl

pub none_rest : (p : Micro → Bool) (x : Micro) (xs : List Micro) → list_any p (x ∷ xs) ≡ false → list_any p xs ≡ false
none_rest p x xs e = right (p x) (list_any p xs) e where
  right : (a b : Bool) → (a || b) ≡ false → b ≡ false
  right true b h = absurd cc
  right false b h = h

pub none_behind : (p : Micro → Bool) (xs ys : List Micro) → list_any p (xs ++ ys) ≡ false → list_any p ys ≡ false
none_behind p [] ys e = e
none_behind p (x ∷ xs) ys e = none_behind p xs ys (none_rest p x (xs ++ ys) e)
