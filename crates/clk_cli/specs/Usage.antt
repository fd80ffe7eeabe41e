-- The line that answers words without a meaning.
use Rattle.std.specs.Prelude.{ℕ, List, [], ◌∷◌, ◌++◌, codes}

-- how the program is called, and a line feed
unfoldable pub usage_line : List ℕ
usage_line = codes "usage: clkbench [--journal] [--ignore-unused] check|sim|run|bench N" ++ 10 ∷ []
