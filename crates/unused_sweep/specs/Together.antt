-- Clocks that stand together in a tree.
use Rattle.std.specs.Prelude.{◌≡◌, ◌⊎◌, ℕ, List, flat_map}
use Rattle.clk_model.specs.Tree.{children, roots, orphans}
use Rattle.clk_model.specs.Script.{tree_within}
use Rattle.clk_tree.specs.TreeState.{TreeState}

-- these are the children of a clock, the roots or the orphans, the newest attached first
abbrev pub StandTogether : TreeState → List ℕ → Type 0
StandTogether t cs = ((p : ℕ) × (cs ≡ children t.order t.clocks p)) ⊎ ((cs ≡ roots t.defs t.order) ⊎ (cs ≡ orphans t.defs t.order t.clocks))

-- the trees of some clocks, each clock behind what is below it, cut to so many levels
abbrev pub trees : TreeState → ℕ → List ℕ → List ℕ
trees t levels cs = flat_map (tree_within (children t.order t.clocks) levels) cs
