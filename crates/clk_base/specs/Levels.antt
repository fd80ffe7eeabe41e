-- Lines of possible parents: from a clock to one of its possible parents, and so on.
use Rattle.std.specs.Prelude.{ℕ, zero, suc, Bool, false, ◌==◌, ◌||◌, List}
use Rattle.std.specs.List.{list_any, list_all}

-- the most clocks that a line of possible parents may have
unfoldable pub depth : ℕ
depth = 64

-- whether every line of possible parents that begins at the clock has at most so many clocks
abbrev pub ends_within : (ℕ → List ℕ) → ℕ → ℕ → Bool
ends_within parents zero c = false
ends_within parents (suc levels) c = list_all (ends_within parents levels) (parents c)

-- whether a line of possible parents leads from the clock to an ancestor in at most so many steps
abbrev pub reaches_within : (ℕ → List ℕ) → ℕ → ℕ → ℕ → Bool
reaches_within parents zero ancestor c = false
reaches_within parents (suc steps) ancestor c =
    list_any (λ p. (p == ancestor) || reaches_within parents steps ancestor p) (parents c)
