-- Words with a space between each two are the parts of their line.
use Rattle.std.proofs.Common.{◌≡◌, ℕ, true, false, cond, List, [], ◌∷◌, ◌++◌, refl, sym, ap, ◌∙◌, codes, append_assoc, arith}
use Rattle.std.specs.Prelude.{◌==◌, not}
use Rattle.std.specs.List.{onto_first}
use Rattle.std.proofs.lemmas.List.Splits.{slice_split-cons_no}
use Rattle.std.proofs.lemmas.Bool.Decides.{nat_tests}
use Rattle.clk_model.specs.Text.{Word, spaced}
use Rattle.clk_model.proofs.Members.{both_left, both_right}
use Rattle.clk_journal.proofs.Parting.{AreWhole, no_blank, blankless}
use Rattle.clk_journal.proofs.Splits.{parts, some_part}

spaced_onto : (b : ℕ) (w : Word) (ws : List Word) → spaced ((b ∷ w) ∷ ws) ≡ b ∷ spaced (w ∷ ws)
spaced_onto b w [] = refl
spaced_onto b w (v ∷ ws) = refl

-- parts joined again
pub spaced_parts : (bs : List ℕ) → spaced (parts bs) ≡ bs
spaced_parts [] = refl
spaced_parts (b ∷ bs) =
    let some = some_part (λ x. x == 32) bs in
    let rest : spaced (some.0 ∷ some.1) ≡ bs = ap spaced (sym some.2) ∙ spaced_parts bs in
    elim (b == 32) as (λ t. (b == 32) ≡ t → spaced (cond t ([] ∷ parts bs) (onto_first b (parts bs))) ≡ b ∷ bs) [
      | true ↦ λ e.
          let same : b ≡ 32 = grind (arith, nat_tests, e) in
          ap (λ ps. spaced ([] ∷ ps)) some.2 ∙ ap (λ xs. 32 ∷ xs) rest ∙ ap (λ x. x ∷ bs) (sym same)
      | false ↦ λ e. ap (λ ps. spaced (onto_first b ps)) some.2 ∙ spaced_onto b some.0 some.1 ∙ ap (λ xs. b ∷ xs) rest
    ] refl

-- a word without a blank is one part
lone : (w : Word) → no_blank w ≡ true → parts w ≡ w ∷ []
lone [] h = refl
lone (b ∷ w) h =
    let apart : (b == 32) ≡ false = grind (arith, nat_tests, both_left (not (b == 32)) (no_blank w) h) in
    slice_split-cons_no (λ x. x == 32) b w apart ∙ ap (onto_first b) (lone w (both_right (not (b == 32)) (no_blank w) h))

-- so it is before a space
first_part : (w : Word) (xs : List ℕ) → no_blank w ≡ true → parts (w ++ 32 ∷ xs) ≡ w ∷ parts xs
first_part [] xs h = refl
first_part (b ∷ w) xs h =
    let apart : (b == 32) ≡ false = grind (arith, nat_tests, both_left (not (b == 32)) (no_blank w) h) in
    slice_split-cons_no (λ x. x == 32) b (w ++ 32 ∷ xs) apart ∙ ap (onto_first b) (first_part w xs (both_right (not (b == 32)) (no_blank w) h))

-- the parts of whole words are these words
pub parts_spaced : (w : Word) (ws : List Word) → AreWhole (w ∷ ws) → parts (spaced (w ∷ ws)) ≡ w ∷ ws
parts_spaced w [] whole = lone w (blankless w whole.0)
parts_spaced w (v ∷ ws) whole =
    ap parts (append_assoc w (codes " ") (spaced (v ∷ ws))) ∙ first_part w (spaced (v ∷ ws)) (blankless w whole.0) ∙ ap (λ vs. w ∷ vs) (parts_spaced v ws whole.1)
