-- Laws on going through the children of a clock by their ring, and on what is below them.
use Rattle.std.proofs.Common.{◌≡◌, ℕ, suc, ◌+◌, ◌<◌, ◌≤◌, true, false, List, [], ◌∷◌, Some, refl, sym, ap, subst, ◌∙◌, ◌⊎◌, arith, drop, length, nat_lt}
use Rattle.std.specs.Prelude.{flat_map, slice_get, slice_index}
use Rattle.std.proofs.lemmas.Bool.{both_ways, false_from_ne_true, ltb-true, ltb-false}
use Rattle.clk_model.specs.Lists.{is_in}
use Rattle.clk_model.specs.Walk.{below_within}
use Rattle.clk_model.proofs.Members.{is_in_tail}
use Rattle.clk_model.proofs.OnceLaws.{in_append, flat_map_in}
use Rattle.clk_tree.specs.Refreshed.{AreKidRings}
use Rattle.clk_tree.proofs.Along.{ComesAt, leads_comes, go_on, stops, none_left, drop_at}

-- ---- the ring

-- behind the end of the children come all of them
pub first_kid : (n : ℕ) (siblings : List ℕ) (clock at : ℕ) → clock < n → at ≡ slice_index siblings (n + clock)
    → (kids : ℕ → List ℕ) → AreKidRings n siblings kids → ComesAt siblings (n + clock) at (drop 0 (kids clock))
first_kid n siblings clock at place first kids are =
    subst (λ (a : ℕ). ComesAt siblings (n + clock) a (kids clock)) (sym first) (leads_comes siblings (n + clock) (n + clock) (kids clock) (are.rings clock place))

-- a clock that comes is the child at its place, and behind it come the later ones
pub next_kid : (n : ℕ) (siblings : List ℕ) (clock at step : ℕ) → at < n → ((kids : ℕ → List ℕ) → AreKidRings n siblings kids → ComesAt siblings (n + clock) at (drop step (kids clock)))
    → (kids : ℕ → List ℕ) → AreKidRings n siblings kids → (slice_get (kids clock) step ≡ Some at) × ComesAt siblings (n + clock) (slice_index siblings at) (drop (suc step) (kids clock))
next_kid n siblings clock at step less comes kids are = go_on siblings (n + clock) at n step (kids clock) (omega arith) less (comes kids are)

-- where an end comes, no child is left
pub no_kid_left : (n : ℕ) (siblings : List ℕ) (clock at step : ℕ) → n ≤ at → ((kids : ℕ → List ℕ) → AreKidRings n siblings kids → ComesAt siblings (n + clock) at (drop step (kids clock)))
    → (kids : ℕ → List ℕ) → AreKidRings n siblings kids → length (kids clock) ≤ step
no_kid_left n siblings clock at step beyond comes kids are = stops siblings (n + clock) at n step (kids clock) (λ x m. are.clocks clock x m) beyond (comes kids are)

-- where a clock stands behind the end, there is a child
pub some_kid : (n : ℕ) (siblings : List ℕ) (clock at : ℕ) → clock < n → at ≡ slice_index siblings (n + clock)
    → (kids : ℕ → List ℕ) → AreKidRings n siblings kids → nat_lt at n ≡ true → 0 < length (kids clock)
some_kid n siblings clock at place first kids are less = by_kids (kids clock) (first_kid n siblings clock at place first kids are) where
  by_kids : (xs : List ℕ) → ComesAt siblings (n + clock) at (drop 0 xs) → 0 < length xs
  by_kids [] is = let before : at < n = ltb-true at n less in let end : at ≡ n + clock = is in absurd (omega arith)
  by_kids (x ∷ xs) is = omega arith

-- and where an end stands there, there is none
pub no_kid : (n : ℕ) (siblings : List ℕ) (clock at : ℕ) → clock < n → at ≡ slice_index siblings (n + clock)
    → (kids : ℕ → List ℕ) → AreKidRings n siblings kids → nat_lt at n ≡ false → kids clock ≡ []
no_kid n siblings clock at place first kids are most =
    none_left (kids clock) 0 (no_kid_left n siblings clock at 0 (ltb-false at n most) (first_kid n siblings clock at place first) kids are)

-- ---- what is below

-- what isn't below a clock isn't below its child
pub not_below_kid : (kids : ℕ → List ℕ) (levels clock kid k : ℕ) → is_in kid (kids clock) ≡ true → is_in k (below_within kids (suc levels) clock) ≡ false → is_in k (below_within kids levels kid) ≡ false
not_below_kid kids levels clock kid k is out =
    false_from_ne_true (is_in k (below_within kids levels kid)) (λ there.
    both_ways _ out (is_in_tail k clock (flat_map (below_within kids levels) (kids clock)) (flat_map_in (below_within kids levels) k kid (kids clock) is there)))

-- what is below one of the children that are left is below the first of them or below a later one
pub below_left : (kids : ℕ → List ℕ) (levels clock kid step k : ℕ) → slice_get (kids clock) step ≡ Some kid → is_in k (flat_map (below_within kids levels) (drop step (kids clock))) ≡ true
    → (is_in k (below_within kids levels kid) ≡ true) ⊎ (is_in k (flat_map (below_within kids levels) (drop (suc step) (kids clock))) ≡ true)
below_left kids levels clock kid step k here later =
    in_append k (below_within kids levels kid) (flat_map (below_within kids levels) (drop (suc step) (kids clock)))
    (ap (λ (ys : List ℕ). is_in k (flat_map (below_within kids levels) ys)) (sym (drop_at (kids clock) step kid here)) ∙ later)

-- without a level nothing is below any clock
pub none_below : (kids : ℕ → List ℕ) (k : ℕ) (xs : List ℕ) → is_in k (flat_map (below_within kids 0) xs) ≡ false
none_below kids k [] = refl
none_below kids k (x ∷ xs) = none_below kids k xs
