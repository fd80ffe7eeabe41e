-- Clocks of a description in lists, in steps and in lists of steps.
use Rattle.std.proofs.Common.{◌≡◌, ℕ, ◌<◌, Bool, true, false, cond, List, [], ◌∷◌, ◌++◌, Some, sym, ap, subst, ◌∙◌, map, inl, inr}
use Rattle.std.specs.Prelude.{◌==◌, filter, flat_map, slice_get, reverse}
use Rattle.std.specs.List.{AllByRecursion}
use Rattle.std.proofs.lemmas.List.Folds.{list_any-append}
use Rattle.clk_base.specs.declared.call.Micro.{Micro}
use Rattle.clk_base.specs.declared.clock.ClockId.{ClockId}
use Rattle.clk_model.specs.Lists.{is_in, without_one}
use Rattle.clk_model.proofs.Members.{or_cases, is_in_head, is_in_tail, is_in_cases, is_in-reverse}
use Rattle.clk_model.proofs.OnceLaws.{in_flat_map}
use Rattle.clk_model.proofs.PllLaws.{at_place}
use Rattle.clk_journal.specs.Sized.{clocks_in_step}

-- each of these is one of so many clocks
abbrev pub ArePlaced : ℕ → List ℕ → Type 0
ArePlaced n xs = (x : ℕ) → is_in x xs ≡ true → x < n

-- so are those that are named
abbrev pub AreNamed : ℕ → List ClockId → Type 0
AreNamed n cs = AllByRecursion (λ c. c.0 < n) cs

-- and those that these steps name
abbrev pub StepsName : ℕ → List Micro → Type 0
StepsName n ms = AllByRecursion (λ m. AreNamed n (clocks_in_step m)) ms

-- ---- lists of clocks

pub none_placed : (n : ℕ) → ArePlaced n []
none_placed n x m = absurd cc

pub one_more : (n x : ℕ) (xs : List ℕ) → x < n → ArePlaced n xs → ArePlaced n (x ∷ xs)
one_more n x xs here rest y m =
    elim (is_in_cases y x xs m) [
      | inl same ↦ subst (λ (z : ℕ). z < n) same here
      | inr later ↦ rest y later
    ]

pub first_placed : (n x : ℕ) (xs : List ℕ) → ArePlaced n (x ∷ xs) → x < n
first_placed n x xs all = all x (is_in_head x xs)

pub rest_placed : (n x : ℕ) (xs : List ℕ) → ArePlaced n (x ∷ xs) → ArePlaced n xs
rest_placed n x xs all y m = all y (is_in_tail y x xs m)

pub both_placed : (n : ℕ) (xs ys : List ℕ) → ArePlaced n xs → ArePlaced n ys → ArePlaced n (xs ++ ys)
both_placed n xs ys one two y m =
    elim (or_cases (is_in y xs) (is_in y ys) (sym (list_any-append (λ z. z == y) xs ys) ∙ m)) [
      | inl h ↦ one y h
      | inr h ↦ two y h
    ]

in_filter : (test : ℕ → Bool) (x : ℕ) (xs : List ℕ) → is_in x (filter test xs) ≡ true → is_in x xs ≡ true
in_filter test x [] m = absurd cc
in_filter test x (y ∷ ys) m = by (test y) (λ h. in_filter test x ys h) m where
  by : (b : Bool) → (is_in x (filter test ys) ≡ true → is_in x ys ≡ true) → is_in x (cond b (y ∷ filter test ys) (filter test ys)) ≡ true → is_in x (y ∷ ys) ≡ true
  by false rest h = is_in_tail x y ys (rest h)
  by true rest h =
      elim (is_in_cases x y (filter test ys) h) [
        | inl same ↦ ap (λ (z : ℕ). is_in x (z ∷ ys)) same ∙ is_in_head x ys
        | inr later ↦ is_in_tail x y ys (rest later)
      ]

pub chosen_placed : (n : ℕ) (test : ℕ → Bool) (xs : List ℕ) → ArePlaced n xs → ArePlaced n (filter test xs)
chosen_placed n test xs all y m = all y (in_filter test y xs m)

pub less_one_placed : (n x : ℕ) (xs : List ℕ) → ArePlaced n xs → ArePlaced n (without_one x xs)
less_one_placed n x [] all = all
less_one_placed n x (y ∷ ys) all = by (y == x) (less_one_placed n x ys (rest_placed n y ys all)) where
  by : (b : Bool) → ArePlaced n (without_one x ys) → ArePlaced n (cond b ys (y ∷ without_one x ys))
  by true rest = rest_placed n y ys all
  by false rest = one_more n y (without_one x ys) (first_placed n y ys all) rest

pub each_placed : (n : ℕ) (f : ℕ → List ℕ) (xs : List ℕ) → ((x : ℕ) → is_in x xs ≡ true → ArePlaced n (f x)) → ArePlaced n (flat_map f xs)
each_placed n f xs each y m = let at = in_flat_map f y xs m in each at.0 at.1 y at.2

pub at_start : (n x : ℕ) (xs : List ℕ) → ArePlaced n xs → slice_get xs 0 ≡ Some x → x < n
at_start n x xs all at = all x (at_place xs 0 x at)

pub at_end : (n x : ℕ) (xs : List ℕ) → ArePlaced n xs → slice_get (reverse xs) 0 ≡ Some x → x < n
at_end n x xs all at = all x (sym (is_in-reverse x xs) ∙ at_place (reverse xs) 0 x at)

-- ---- lists of steps

pub both_name : (n : ℕ) (ms ns : List Micro) → StepsName n ms → StepsName n ns → StepsName n (ms ++ ns)
both_name n [] ns one two = two
both_name n (m ∷ ms) ns one two = (one.0, both_name n ms ns one.1 two)

-- the end of such steps
pub end_names : (n : ℕ) (ms ns : List Micro) → StepsName n (ms ++ ns) → StepsName n ns
end_names n [] ns all = all
end_names n (m ∷ ms) ns all = end_names n ms ns all.1

pub either_names : (n : ℕ) (b : Bool) (ms ns : List Micro) → StepsName n ms → StepsName n ns → StepsName n (cond b ms ns)
either_names n true ms ns one two = one
either_names n false ms ns one two = two

pub map_names : {X : Type 0} (n : ℕ) (f : X → Micro) (xs : List X) → ((x : X) → AreNamed n (clocks_in_step (f x))) → StepsName n (map f xs)
map_names n f [] each = tt
map_names n f (x ∷ xs) each = (each x, map_names n f xs each)

pub map_in_names : (n : ℕ) (f : ℕ → Micro) (xs : List ℕ) → ((x : ℕ) → is_in x xs ≡ true → AreNamed n (clocks_in_step (f x))) → StepsName n (map f xs)
map_in_names n f [] each = tt
map_in_names n f (x ∷ xs) each = (each x (is_in_head x xs), map_in_names n f xs (λ y m. each y (is_in_tail y x xs m)))

pub flat_names : (n : ℕ) (f : ℕ → List Micro) (xs : List ℕ) → ((x : ℕ) → is_in x xs ≡ true → StepsName n (f x)) → StepsName n (flat_map f xs)
flat_names n f [] each = tt
flat_names n f (x ∷ xs) each = both_name n (f x) (flat_map f xs) (each x (is_in_head x xs)) (flat_names n f xs (λ y m. each y (is_in_tail y x xs m)))
