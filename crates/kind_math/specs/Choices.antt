-- Choosing among numbers.
use Rattle.std.specs.Prelude.{ℕ, Bool, List, Option, min, max}
use Rattle.std.specs.List.{filter, reduce, fold}

-- the least of the numbers that pass, where one does
unfoldable pub least : (ℕ → Bool) → List ℕ → Option ℕ
least passes numbers = reduce min (filter passes numbers)

-- the greatest of the numbers that pass, where one does
unfoldable pub greatest : (ℕ → Bool) → List ℕ → Option ℕ
greatest passes numbers = reduce max (filter passes numbers)

-- the greatest of the numbers, 0 where there is none
unfoldable pub greatest_of : List ℕ → ℕ
greatest_of numbers = fold max 0 numbers
