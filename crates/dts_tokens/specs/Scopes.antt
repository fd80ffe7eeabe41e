-- What the reader keeps in mind of the words that it has passed.
use Rattle.std.specs.Prelude.{◌≡◌, ℕ, List}
use Rattle.dts_tokens.specs.declared.scope.Scope.{Scope}
use Rattle.dts_tokens.specs.Limits.{is_in_cells, is_in_reserve}

-- the scope behind these words
abbrev pub IsScope : List (List ℕ) → Scope → Type 0
IsScope words scope = (scope.in_cells ≡ is_in_cells words) × (scope.in_reserve ≡ is_in_reserve words)
