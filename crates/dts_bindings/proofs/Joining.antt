-- Cells joined over values, and looked at by their places.
use Rattle.std.proofs.Common.{◌≡◌, ℕ, zero, suc, ◌+◌, ◌-◌, ◌<◌, ◌≤◌, true, false, Option, Some, None, List, [], ◌∷◌, ◌++◌, length, map, take, drop, get_or, refl, sym, ap, ◌∙◌, arith, add-one, drop-cons}
use Rattle.std.specs.List.{list_all, flat_map, filter_map}
use Rattle.std.specs.Option.{option_and_then, option_to_list}
use Rattle.std.proofs.lemmas.List.{take_more, map-append}
use Rattle.std.proofs.lemmas.List.Elements.{filter_map-append}
use Rattle.std.specs.Prelude.{slice_get, if◌then◌else◌}
use Rattle.dts_tree.specs.declared.tree.Cell.{Cell}
use Rattle.dts_tree.specs.declared.tree.Cell.TheVariants as cells
use Rattle.dts_tree.specs.declared.tree.DtsValue.{DtsValue}
use Rattle.dts_tree.specs.Tree.{SeenValue, seen_value}
use Rattle.dts_tree.proofs.Shown.{filter_map-one}
use Rattle.dts_bindings.specs.Alone.{alone, two_alone}
use Rattle.dts_bindings.specs.Properties.{is_cells, cells_of, cells_in, text_of, is_number, number_of, numbers_in, all_numbers, only, only_two, one_number, two_numbers}

-- a place within the first of two lists, and one past it
pub slice_get-left : {X : Type 0} (xs ys : List X) (k : ℕ) (d : X) → k < length xs → Some (get_or xs k d) ≡ slice_get (xs ++ ys) k
slice_get-left [] ys k d h = absurd (omega arith)
slice_get-left (x ∷ xs) ys zero d h = refl
slice_get-left (x ∷ xs) ys (suc k) d h = slice_get-left xs ys k d (omega arith)

pub slice_get-right : {X : Type 0} (xs ys : List X) (k : ℕ) → length xs ≤ k → slice_get ys (k - length xs) ≡ slice_get (xs ++ ys) k
slice_get-right [] ys k h = let e : k - 0 ≡ k = omega arith in ap (slice_get ys) e
slice_get-right (x ∷ xs) ys zero h = absurd (omega arith)
slice_get-right (x ∷ xs) ys (suc k) h = let e : suc k - length (x ∷ xs) ≡ k - length xs = omega arith in ap (slice_get ys) e ∙ slice_get-right xs ys k (omega arith)

-- the cells of the values from a place on: those of the value there, and of the values behind it
pub cells-next : (vs : List DtsValue) (i : ℕ) (d : DtsValue) → i < length vs
    → flat_map cells_of (map seen_value (drop i vs)) ≡ cells_of (seen_value (get_or vs i d)) ++ flat_map cells_of (map seen_value (drop (i + 1) vs))
cells-next vs i d low = rw (add-one, drop-cons vs i d) refl

-- one number is the first cell where there is no second
only-alone : (xs : List Cell) → option_and_then only (numbers_in xs) ≡ alone (slice_get xs 0) (slice_get xs 1)
unfolding numbers_in
only-alone [] = refl
only-alone (cells.Number n ∷ []) = refl
only-alone (cells.Node n ∷ []) = refl
only-alone (cells.Node n ∷ b ∷ xs) = refl
only-alone (cells.Number n ∷ cells.Node m ∷ xs) = refl
only-alone (cells.Number n ∷ cells.Number m ∷ xs) = elim (list_all is_number xs) as (λ t. option_and_then only (if t then Some (n ∷ m ∷ filter_map number_of xs) else None) ≡ None) [ true ↦ refl | false ↦ refl ]

-- two numbers are the first two cells where there is no third
only-two_alone : (xs : List Cell) → option_and_then only_two (numbers_in xs) ≡ two_alone (slice_get xs 0) (slice_get xs 1) (slice_get xs 2)
unfolding numbers_in
only-two_alone [] = refl
only-two_alone (cells.Number n ∷ []) = refl
only-two_alone (cells.Node n ∷ []) = refl
only-two_alone (cells.Node n ∷ b ∷ xs) = refl
only-two_alone (cells.Number n ∷ cells.Node m ∷ xs) = refl
only-two_alone (cells.Number n ∷ cells.Number m ∷ []) = refl
only-two_alone (cells.Number n ∷ cells.Number m ∷ cells.Node l ∷ xs) = refl
only-two_alone (cells.Number n ∷ cells.Number m ∷ cells.Number l ∷ xs) = elim (list_all is_number xs) as (λ t. option_and_then only_two (if t then Some (n ∷ m ∷ l ∷ filter_map number_of xs) else None) ≡ None) [ true ↦ refl | false ↦ refl ]

-- values that are not all cells are no numbers
pub no_number : (vs : List SeenValue) → list_all is_cells vs ≡ false → None ≡ one_number vs
unfolding one_number all_numbers cells_in
no_number vs h = rw h refl

pub no_numbers : (vs : List SeenValue) → list_all is_cells vs ≡ false → None ≡ two_numbers vs
unfolding two_numbers all_numbers cells_in
no_numbers vs h = rw h refl

-- values that are all cells are the numbers that their first cells tell
pub number-alone : (vs : List SeenValue) → list_all is_cells vs ≡ true → one_number vs ≡ alone (slice_get (flat_map cells_of vs) 0) (slice_get (flat_map cells_of vs) 1)
unfolding one_number all_numbers cells_in
number-alone vs h = rw h (only-alone (flat_map cells_of vs))

pub numbers-two_alone : (vs : List SeenValue) → list_all is_cells vs ≡ true → two_numbers vs ≡ two_alone (slice_get (flat_map cells_of vs) 0) (slice_get (flat_map cells_of vs) 1) (slice_get (flat_map cells_of vs) 2)
unfolding two_numbers all_numbers cells_in
numbers-two_alone vs h = rw h (only-two_alone (flat_map cells_of vs))

-- the cells from a place on, told by the value there
from-here : (vs : List DtsValue) (i left place : ℕ) (v : DtsValue) (cs : List Cell) → i < length vs → v ≡ get_or vs i v → cs ≡ cells_of (seen_value v)
    → slice_get (flat_map cells_of (map seen_value (drop i vs))) left ≡ slice_get (flat_map cells_of (map seen_value vs)) place
    → slice_get (cs ++ flat_map cells_of (map seen_value (drop (i + 1) vs))) left ≡ slice_get (flat_map cells_of (map seen_value vs)) place
from-here vs i left place v cs low is are was =
    let rest : List Cell = flat_map cells_of (map seen_value (drop (i + 1) vs)) in
    ap (λ xs. slice_get (xs ++ rest) left) (are ∙ ap (λ w. cells_of (seen_value w)) is) ∙ (ap (λ xs. slice_get xs left) (sym (cells-next vs i v low)) ∙ was)

-- the place is among the cells of the value there
pub cell-here : (vs : List DtsValue) (i left place : ℕ) (v : DtsValue) (cs : List Cell) (d : Cell) → i < length vs → v ≡ get_or vs i v → cs ≡ cells_of (seen_value v) → left < length cs
    → slice_get (flat_map cells_of (map seen_value (drop i vs))) left ≡ slice_get (flat_map cells_of (map seen_value vs)) place
    → Some (get_or cs left d) ≡ slice_get (flat_map cells_of (map seen_value vs)) place
cell-here vs i left place v cs d low is are within was =
    slice_get-left cs (flat_map cells_of (map seen_value (drop (i + 1) vs))) left d within ∙ from-here vs i left place v cs low is are was

-- the place is behind the cells of the value there
pub cell-behind : (vs : List DtsValue) (i left place : ℕ) (v : DtsValue) (cs : List Cell) → i < length vs → v ≡ get_or vs i v → cs ≡ cells_of (seen_value v) → length cs ≤ left
    → slice_get (flat_map cells_of (map seen_value (drop i vs))) left ≡ slice_get (flat_map cells_of (map seen_value vs)) place
    → slice_get (flat_map cells_of (map seen_value (drop (i + 1) vs))) (left - length cs) ≡ slice_get (flat_map cells_of (map seen_value vs)) place
cell-behind vs i left place v cs low is are past was =
    slice_get-right cs (flat_map cells_of (map seen_value (drop (i + 1) vs))) left past ∙ from-here vs i left place v cs low is are was

-- one value more, of which a string may be kept
pub texts-next : (vs : List DtsValue) (i : ℕ) (v : DtsValue) (old new : List (List ℕ)) (o : Option (List ℕ)) → i < length vs → v ≡ get_or vs i v → o ≡ text_of (seen_value v) → new ≡ old ++ option_to_list o
    → old ≡ filter_map text_of (map seen_value (take i vs)) → new ≡ filter_map text_of (map seen_value (take (i + 1) vs))
texts-next vs i v old new o low is here n was =
    n ∙ (ap (λ xs. xs ++ option_to_list o) was ∙ (ap (λ p. filter_map text_of (map seen_value (take i vs)) ++ option_to_list p) (here ∙ ap (λ w. text_of (seen_value w)) is)
    ∙ (ap (λ ys. filter_map text_of (map seen_value (take i vs)) ++ ys) (sym (filter_map-one text_of (seen_value (get_or vs i v)) (text_of (seen_value (get_or vs i v))) refl))
    ∙ (sym (filter_map-append text_of (map seen_value (take i vs)) (seen_value (get_or vs i v) ∷ []))
    ∙ ap (filter_map text_of) (sym (map-append seen_value (take i vs) (get_or vs i v ∷ [])) ∙ ap (map seen_value) (sym (take_more vs i v low)))))))
