-- So many trees are there, and the rest of the trees makes them whole.
use Rattle.std.proofs.Common.{◌≡◌, ℕ, ◌+◌, ◌≤◌, ◌++◌, List, length, drop, map}
use Rattle.std.specs.Prelude.{slice_get}
use Rattle.std.specs.Option.{option_map}
use Rattle.unused_sweep.specs.Together.{StandTogether, trees}
use Rattle.unused_sweep.proofs.trees.+push_trees.Given as goal

abbrev pub decreases-push_trees : goal.decreases-push_trees
decreases-push_trees l = l.levels

abbrev pub invariant-loop-count : goal.invariant-loop-count
invariant-loop-count l = record {
  room : l.count ≤ length l.order.items;
  along : (cs : List ℕ) (k : ℕ) → StandTogether l.tree cs → option_map (λ c. c.0) l.fn.first ≡ slice_get cs k → option_map (λ c. c.0) l.at ≡ slice_get cs (k + l.count);
  few : (cs : List ℕ) (k : ℕ) → StandTogether l.tree cs → option_map (λ c. c.0) l.fn.first ≡ slice_get cs k → k ≤ length cs → k + l.count ≤ length cs;
  pushed : (cs : List ℕ) (k : ℕ) → StandTogether l.tree cs → option_map (λ c. c.0) l.fn.first ≡ slice_get cs k
      → map (λ c. c.0) l.order.items ++ trees l.tree l.levels (drop (k + l.count) cs) ≡ map (λ c. c.0) l.fn.order.items ++ trees l.tree l.levels (drop k cs);
}
