-- Laws on lists: steps behind the first, and raised PLLs that are let go.
use Rattle.std.proofs.Common.{◌≡◌, ℕ, zero, suc, ◌+◌, ◌||◌, Bool, true, false, not, cond, List, [], ◌∷◌, ◌++◌, refl, sym, ap, ◌∙◌, arith, drop, map, nat_eq}
use Rattle.std.specs.Prelude.{filter, reverse}
use Rattle.std.specs.List.{list_any}
use Rattle.std.proofs.lemmas.List.Folds.{list_any-append}
use Rattle.std.proofs.lemmas.List.{reverse-append, append-nil}
use Rattle.clk_base.specs.declared.clock.ClockId.{ClockId}
use Rattle.clk_base.specs.declared.call.Micro.{Micro}
use Rattle.clk_model.specs.Lists.{is_in, without}
use Rattle.clk_model.specs.Step.{rest_of}
use Rattle.clk_model.proofs.OnceLaws.{turned}

-- what stands behind the first of what is left
pub drop_one : (n : ℕ) (xs : List Micro) → drop (n + 1) xs ≡ rest_of (drop n xs)
drop_one n xs = let one : n + 1 ≡ suc n = omega arith in ap (λ (k : ℕ). drop k xs) one ∙ each n xs where
  each : (k : ℕ) (ms : List Micro) → drop (suc k) ms ≡ rest_of (drop k ms)
  each zero [] = refl
  each zero (m ∷ ms) = refl
  each (suc k) [] = refl
  each (suc k) (m ∷ ms) = each k ms

filter-append : {X : Type 0} (p : X → Bool) (xs ys : List X) → filter p (xs ++ ys) ≡ filter p xs ++ filter p ys
filter-append p [] ys = refl
filter-append p (x ∷ xs) ys = one (p x) (filter-append p xs ys) where
  one : (t : Bool) → filter p (xs ++ ys) ≡ filter p xs ++ filter p ys
      → cond t (x ∷ filter p (xs ++ ys)) (filter p (xs ++ ys)) ≡ cond t (x ∷ filter p xs) (filter p xs) ++ filter p ys
  one true rest = ap (λ zs. x ∷ zs) rest
  one false rest = rest

reverse-cons : (x : ℕ) (xs : List ℕ) → reverse (x ∷ xs) ≡ reverse xs ++ x ∷ []
reverse-cons x xs = reverse-append (x ∷ []) xs

kept_one : (x y : ℕ) (t : Bool) → nat_eq x y ≡ t → without (y ∷ []) (x ∷ []) ≡ cond t [] (x ∷ [])
kept_one x y t is = ap (λ (b : Bool). cond (not (b || false)) (x ∷ []) []) (turned y x ∙ is) ∙ each t where
  each : (b : Bool) → cond (not (b || false)) (x ∷ []) [] ≡ cond b [] (x ∷ [])
  each true = refl
  each false = refl

without_of-append : (y : ℕ) (xs ys : List ℕ) → without (y ∷ []) (xs ++ ys) ≡ without (y ∷ []) xs ++ without (y ∷ []) ys
without_of-append y xs ys = filter-append (λ x. not (nat_eq y x || false)) xs ys

let_go-step : (y : ℕ) (c : ClockId) (cs : List ClockId)
    → reverse (map (λ d. d.0) (filter (λ (d : ClockId). not (nat_eq d.0 y)) cs)) ≡ without (y ∷ []) (reverse (map (λ d. d.0) cs))
    → reverse (map (λ d. d.0) (filter (λ (d : ClockId). not (nat_eq d.0 y)) (c ∷ cs))) ≡ without (y ∷ []) (reverse (map (λ d. d.0) (c ∷ cs)))
let_go-step y c cs rest = one (nat_eq c.0 y) refl where
  whole : without (y ∷ []) (reverse (map (λ d. d.0) (c ∷ cs))) ≡ without (y ∷ []) (reverse (map (λ d. d.0) cs)) ++ without (y ∷ []) (c.0 ∷ [])
  whole = ap (without (y ∷ [])) (reverse-cons c.0 (map (λ d. d.0) cs)) ∙ without_of-append y (reverse (map (λ d. d.0) cs)) (c.0 ∷ [])

  one : (t : Bool) → nat_eq c.0 y ≡ t
      → reverse (map (λ d. d.0) (cond (not t) (c ∷ filter (λ (d : ClockId). not (nat_eq d.0 y)) cs) (filter (λ (d : ClockId). not (nat_eq d.0 y)) cs)))
      ≡ without (y ∷ []) (reverse (map (λ d. d.0) (c ∷ cs)))
  one true is = rest ∙ sym (append-nil (without (y ∷ []) (reverse (map (λ d. d.0) cs)))) ∙ ap (λ zs. without (y ∷ []) (reverse (map (λ d. d.0) cs)) ++ zs) (sym (kept_one c.0 y true is)) ∙ sym whole
  one false is =
      reverse-cons c.0 (map (λ d. d.0) (filter (λ (d : ClockId). not (nat_eq d.0 y)) cs))
      ∙ ap (λ zs. zs ++ c.0 ∷ []) rest
      ∙ ap (λ zs. without (y ∷ []) (reverse (map (λ d. d.0) cs)) ++ zs) (sym (kept_one c.0 y false is)) ∙ sym whole

-- a PLL is let go of the list, the last first, where it is of the clocks in their order
pub let_go-reverse : (y : ℕ) (cs : List ClockId)
    → reverse (map (λ c. c.0) (filter (λ (c : ClockId). not (nat_eq c.0 y)) cs)) ≡ without (y ∷ []) (reverse (map (λ c. c.0) cs))
let_go-reverse y [] = refl
let_go-reverse y (c ∷ cs) = let_go-step y c cs (let_go-reverse y cs)

-- a PLL is in the list backwards where a clock in their order has its number
pub is_in-reverse : (y : ℕ) (cs : List ClockId) → list_any (λ (c : ClockId). nat_eq c.0 y) cs ≡ is_in y (reverse (map (λ c. c.0) cs))
is_in-reverse y [] = refl
is_in-reverse y (c ∷ cs) =
    ap (λ (t : Bool). nat_eq c.0 y || t) (is_in-reverse y cs)
    ∙ turned (nat_eq c.0 y) (is_in y (reverse (map (λ d. d.0) cs)))
    ∙ sym (ap (is_in y) (reverse-cons c.0 (map (λ d. d.0) cs)) ∙ list_any-append (λ x. nat_eq x y) (reverse (map (λ d. d.0) cs)) (c.0 ∷ [])) where
      turned : (a b : Bool) → (a || b) ≡ (b || (a || false))
      turned true true = refl
      turned true false = refl
      turned false true = refl
      turned false false = refl

-- PLLs that are let go one after the other are let go together
pub without-append : (ys zs xs : List ℕ) → without (ys ++ zs) xs ≡ without zs (without ys xs)
without-append ys zs [] = refl
without-append ys zs (x ∷ xs) = ap (λ (t : Bool). cond (not t) (x ∷ without (ys ++ zs) xs) (without (ys ++ zs) xs)) (list_any-append (λ y. nat_eq y x) ys zs) ∙ one (is_in x ys) (without-append ys zs xs) where
  one : (t : Bool) → without (ys ++ zs) xs ≡ without zs (without ys xs)
      → cond (not (t || is_in x zs)) (x ∷ without (ys ++ zs) xs) (without (ys ++ zs) xs) ≡ without zs (cond (not t) (x ∷ without ys xs) (without ys xs))
  one true rest = rest
  one false rest = ap (λ ms. cond (not (is_in x zs)) (x ∷ ms) ms) rest

pub without-none : (xs : List ℕ) → without [] xs ≡ xs
without-none [] = refl
without-none (x ∷ xs) = ap (λ ys. x ∷ ys) (without-none xs)
