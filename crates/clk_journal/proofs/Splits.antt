-- The parts of a text between spaces, taken off one by one.
use Rattle.std.proofs.Common.{◌≡◌, ℕ, ◌+◌, ◌<◌, ◌≤◌, ◌==◌, Bool, true, false, cond, not, List, [], ◌∷◌, ◌++◌, length, take, refl, sym, ap, ◌∙◌, append_assoc, arith, lit<, Bor, slice_set, length-append}
use Rattle.std.specs.Prelude.{Option, Some, None}
use Rattle.std.specs.List.{slice_split, onto_first, position_or_len, after_first}
use Rattle.std.proofs.lemmas.Grind.{common_steps}
use Rattle.std.proofs.lemmas.List.{take_more_set, map-append}
use Rattle.std.proofs.lemmas.List.Splits.{slice_split_first}
use Rattle.std.proofs.lemmas.Str.Pattern.{IsSplitOnceResult, split_once_first}
use Rattle.clk_journal.specs.Words.{texts}

-- the parts of a text between spaces
abbrev pub parts : List ℕ → List (List ℕ)
parts bs = slice_split (λ b. b == 32) bs

-- a list at none of whose elements it is cut is one part
uncut : {X : Type 0} (p : X → Bool) (xs : List X) → length xs ≤ position_or_len p xs → slice_split p xs ≡ xs ∷ []
uncut p [] h = refl
uncut p (x ∷ xs) h =
    elim (p x) as (λ b. length (x ∷ xs) ≤ cond (not b) (1 + position_or_len p xs) 0 → cond b ([] ∷ slice_split p xs) (onto_first x (slice_split p xs)) ≡ (x ∷ xs) ∷ [])
    [ true ↦ λ le. absurd (omega (arith, le)) | false ↦ λ le. ap (onto_first x) (uncut p xs (omega (arith, le))) ] h

-- there is always a part
pub some_part : {X : Type 0} (p : X → Bool) (xs : List X) → (part : List X) × (more : List (List X)) × (slice_split p xs ≡ part ∷ more)
some_part p [] = ([], [], refl)
some_part p (x ∷ xs) =
    let rest = some_part p xs in
    elim (p x) as (λ b. (part : _) × (more : _) × (cond b ([] ∷ slice_split p xs) (onto_first x (slice_split p xs)) ≡ part ∷ more))
    [ true ↦ ([], slice_split p xs, refl) | false ↦ (x ∷ rest.0, rest.1, ap (onto_first x) rest.2) ]

-- the first space ends the first part
pub part_some : (bs : List ℕ) (r : Option (Bor (List ℕ) × Bor (List ℕ))) (w v : Bor (List ℕ)) → IsSplitOnceResult 32 bs r → r ≡ Some (w, v) → parts bs ≡ w.now ∷ parts v.now
part_some bs None w v is e = absurd cc
part_some bs (Some x) w v is e =
    let h = split_once_first 32 bs (Some x) is (lit< tt) in
    let same : x ≡ (w, v) = cc in
    slice_split_first (λ b. b == 32) bs 0 h.0 ∙ ap (λ u. u ∷ parts (after_first (λ b. b == 32) bs)) (sym h.1) ∙ ap (λ u. x.0.now ∷ parts u) (sym h.2) ∙ ap (λ (y : Bor (List ℕ) × Bor (List ℕ)). y.0.now ∷ parts y.1.now) same

-- if there is none, all is one part
pub part_none : (bs : List ℕ) (r : Option (Bor (List ℕ) × Bor (List ℕ))) → IsSplitOnceResult 32 bs r → r ≡ None → parts bs ≡ bs ∷ []
part_none bs None is e = uncut (λ b. b == 32) bs (omega (arith, split_once_first 32 bs None is (lit< tt)))
part_none bs (Some x) is e = absurd cc

-- a word more was put into the room
pub more_words : (room : List (Bor (List ℕ))) (n : ℕ) (w : Bor (List ℕ)) (rest : List ℕ) (more : List (List ℕ)) (all : List (List ℕ)) → n < length room
    → texts (take n room) ++ parts rest ≡ all → parts rest ≡ w.now ∷ more → texts (take (n + 1) (slice_set room n w)) ++ more ≡ all
more_words room n w rest more all low was is =
    ap (λ ws. texts ws ++ more) (take_more_set room n w low)
    ∙ ap (λ ws. ws ++ more) (map-append (λ x. x.now) (take n room) (w ∷ []))
    ∙ append_assoc (texts (take n room)) (w.now ∷ []) more
    ∙ ap (λ ws. texts (take n room) ++ ws) (sym is) ∙ was

-- a room that is full has no place for what is left
pub too_many : (room : List (Bor (List ℕ))) (n : ℕ) (rest : List ℕ) (all : List (List ℕ)) → n ≤ length room → texts (take n room) ++ parts rest ≡ all → n < length all
too_many room n rest all low is =
    let some = some_part (λ b. b == 32) rest in
    let full : length (texts (take n room)) ≡ n = grind (arith, common_steps) in
    let long : length (texts (take n room)) + length (some.0 ∷ some.1) ≡ length all = sym (length-append (texts (take n room)) (some.0 ∷ some.1)) ∙ ap length (ap (λ x. texts (take n room) ++ x) (sym some.2) ∙ is) in
    omega (arith, full, long)
