-- Words on lists of numbers that the definitions share.
use Rattle.std.specs.Prelude.{ℕ, zero, suc, List, [], ◌∷◌, Bool, true, false, not, ◌&&◌, Option, Some, None, filter, if◌then◌else◌, ◌==◌}
use Rattle.std.specs.List.{list_any}

-- whether a number is in a list
abbrev pub is_in : ℕ → List ℕ → Bool
is_in x xs = list_any (λ y. y == x) xs

-- whether no number stands twice in the list
abbrev pub none_twice : List ℕ → Bool
none_twice [] = true
none_twice (x ∷ xs) = not (is_in x xs) && none_twice xs

-- the numbers from k on, as many as n says
abbrev pub count_from : ℕ → ℕ → List ℕ
count_from k zero = []
count_from k (suc n) = k ∷ count_from (suc k) n

-- whether this is the number, if there is one
abbrev pub is_at : ℕ → Option ℕ → Bool
is_at x None = false
is_at x (Some y) = y == x

-- whether two numbers, if there are any, are the same
abbrev pub same_place : Option ℕ → Option ℕ → Bool
same_place None None = true
same_place None (Some y) = false
same_place (Some x) None = false
same_place (Some x) (Some y) = x == y

-- the values of the places that have one
abbrev pub present : {X : Type 0} → List (Option X) → List X
present [] = []
present (None ∷ xs) = present xs
present (Some x ∷ xs) = x ∷ present xs

-- the list without the first place at which the number stands
abbrev pub without_one : ℕ → List ℕ → List ℕ
without_one x [] = []
without_one x (y ∷ ys) = if y == x then ys else y ∷ without_one x ys

-- the list without the numbers of another
abbrev pub without : List ℕ → List ℕ → List ℕ
without dropped xs = filter (λ x. not (is_in x dropped)) xs

-- the list with x in front of it
abbrev pub to_front : ℕ → List ℕ → List ℕ
to_front x xs = x ∷ without (x ∷ []) xs
