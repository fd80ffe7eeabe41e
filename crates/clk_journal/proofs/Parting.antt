-- Whole words with a space between each two are told apart again.
use Rattle.std.proofs.Common.{◌≡◌, ℕ, Bool, true, List, [], ◌∷◌, ◌++◌, refl, sym, ap, ◌∙◌, length, arith, codes, append_assoc}
use Rattle.std.specs.Prelude.{◌==◌, not}
use Rattle.std.specs.List.{list_all, AllByRecursion}
use Rattle.std.proofs.lemmas.Bool.{and_from}
use Rattle.std.proofs.lemmas.Bool.Decides.{nat_tests}
use Rattle.clk_model.proofs.Members.{both_left, both_right}
use Rattle.clk_model.specs.Text.{Word, spaced}
use Rattle.clk_journal.specs.Told.{is_inside, is_whole}

-- whether a word lacks a byte, and whether it has no blank
abbrev pub lacks : ℕ → Word → Bool
lacks byte w = list_all (λ b. not (b == byte)) w

abbrev pub no_blank : Word → Bool
no_blank w = lacks 32 w

-- each of these words is whole
abbrev pub AreWhole : List Word → Type 0
AreWhole ws = AllByRecursion (λ w. is_whole w ≡ true) ws

first_is : {x y : ℕ} {xs ys : List ℕ} → x ∷ xs ≡ y ∷ ys → x ≡ y
first_is e = cc

rest_is : {x y : ℕ} {xs ys : List ℕ} → x ∷ xs ≡ y ∷ ys → xs ≡ ys
rest_is e = cc

-- a byte of a word that lacks another is not that other
not_it : (byte b : ℕ) (w : Word) → lacks byte (b ∷ w) ≡ true → b ≡ byte → ⊥
not_it byte b w h is = grind (arith, nat_tests, both_left (not (b == byte)) (lacks byte w) h, is)

not_empty : (w : Word) → is_whole w ≡ true → [] ≡ w → ⊥
not_empty [] h e = absurd cc
not_empty (b ∷ w) h e = absurd cc

-- a word of bytes that neither part words nor end a line lacks blanks and line ends
blanks_out : (w : Word) → list_all is_inside w ≡ true → lacks 32 w ≡ true
blanks_out [] h = refl
blanks_out (b ∷ w) h = and_from (not (b == 32)) (lacks 32 w) (both_left (not (b == 32)) (not (b == 10)) (both_left (is_inside b) (list_all is_inside w) h)) (blanks_out w (both_right (is_inside b) (list_all is_inside w) h))

ends_out : (w : Word) → list_all is_inside w ≡ true → lacks 10 w ≡ true
ends_out [] h = refl
ends_out (b ∷ w) h = and_from (not (b == 10)) (lacks 10 w) (both_right (not (b == 32)) (not (b == 10)) (both_left (is_inside b) (list_all is_inside w) h)) (ends_out w (both_right (is_inside b) (list_all is_inside w) h))

pub blankless : (w : Word) → is_whole w ≡ true → no_blank w ≡ true
blankless w h = blanks_out w (both_right (not (length w == 0)) (list_all is_inside w) h)

pub endless : (w : Word) → is_whole w ≡ true → lacks 10 w ≡ true
endless w h = ends_out w (both_right (not (length w == 0)) (list_all is_inside w) h)

-- what stands before the first such byte, and what stands after it
pub parted : (byte : ℕ) (w v : Word) (x y : List ℕ) → lacks byte w ≡ true → lacks byte v ≡ true → w ++ byte ∷ x ≡ v ++ byte ∷ y → (w ≡ v) × (x ≡ y)
parted byte [] [] x y p q e = (refl, rest_is e)
parted byte [] (b ∷ v) x y p q e = absurd (not_it byte b v q (sym (first_is e)))
parted byte (a ∷ w) [] x y p q e = absurd (not_it byte a w p (first_is e))
parted byte (a ∷ w) (b ∷ v) x y p q e =
    let more = parted byte w v x y (both_right (not (a == byte)) (lacks byte w) p) (both_right (not (b == byte)) (lacks byte v) q) (rest_is e) in
    (ap (λ (c : ℕ). c ∷ w) (first_is e) ∙ ap (λ (u : Word). b ∷ u) more.0, more.1)

-- a word without a blank isn't two
never_two : (w v : Word) (y : List ℕ) → no_blank w ≡ true → w ≡ v ++ 32 ∷ y → ⊥
never_two [] [] y p e = absurd cc
never_two [] (b ∷ v) y p e = absurd cc
never_two (a ∷ w) [] y p e = not_it 32 a w p (first_is e)
never_two (a ∷ w) (b ∷ v) y p e = never_two w v y (both_right (not (a == 32)) (no_blank w) p) (rest_is e)

-- the same text, the same words
pub spaced_same : (ws vs : List Word) → AreWhole ws → AreWhole vs → spaced ws ≡ spaced vs → ws ≡ vs
spaced_same [] [] p q e = refl
spaced_same [] (v ∷ []) p q e = absurd (not_empty v q.0 e)
spaced_same [] ([] ∷ u ∷ us) p q e = absurd (not_empty [] q.0 refl)
spaced_same [] ((b ∷ v) ∷ u ∷ us) p q e = absurd cc
spaced_same (w ∷ []) [] p q e = absurd (not_empty w p.0 (sym e))
spaced_same (w ∷ []) (v ∷ []) p q e = ap (λ (x : Word). x ∷ []) e
spaced_same (w ∷ []) (v ∷ u ∷ us) p q e = absurd (never_two w v (spaced (u ∷ us)) (blankless w p.0) (e ∙ append_assoc v (codes " ") (spaced (u ∷ us))))
spaced_same ([] ∷ x ∷ ws) [] p q e = absurd (not_empty [] p.0 refl)
spaced_same ((a ∷ w) ∷ x ∷ ws) [] p q e = absurd cc
spaced_same (w ∷ x ∷ ws) (v ∷ []) p q e = absurd (never_two v w (spaced (x ∷ ws)) (blankless v q.0) (sym e ∙ append_assoc w (codes " ") (spaced (x ∷ ws))))
spaced_same (w ∷ x ∷ ws) (v ∷ u ∷ us) p q e =
    let both = parted 32 w v (spaced (x ∷ ws)) (spaced (u ∷ us)) (blankless w p.0) (blankless v q.0) (sym (append_assoc w (codes " ") (spaced (x ∷ ws))) ∙ e ∙ append_assoc v (codes " ") (spaced (u ∷ us))) in
    ap (λ (y : Word). y ∷ x ∷ ws) both.0 ∙ ap (λ (ys : List Word). v ∷ ys) (spaced_same (x ∷ ws) (u ∷ us) p.1 q.1 both.1)
