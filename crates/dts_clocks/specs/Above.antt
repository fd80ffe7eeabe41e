-- The nodes above a node, and what they decide: whether it is passed over, and its path.
use Rattle.std.specs.Prelude.{ℕ, zero, suc, ◌+◌, Bool, true, not, nat_lt, if◌then◌else◌, Option, Some, None, List, [], ◌∷◌, slice_get, reverse}
use Rattle.std.specs.List.{list_any, flat_map}
use Rattle.std.specs.Option.{option_map_or, option_and_then}
use Rattle.dts_tree.specs.Tree.{SeenNode}
use Rattle.dts_bindings.specs.Properties.{is_okay}

-- the parent of a node; it stands before the node
unfoldable pub parent_of : List SeenNode → ℕ → Option ℕ
parent_of nodes k = option_and_then (λ node. option_and_then (λ p. if nat_lt p k then Some p else None) node.parent) (slice_get nodes k)

-- at most n nodes: the one of a place, and those above it, the nearest first
unfoldable pub line_within : List SeenNode → ℕ → ℕ → List ℕ
line_within nodes zero k = []
line_within nodes (suc n) k = k ∷ option_map_or (line_within nodes n) (parent_of nodes k) []

-- a node and those above it, the nearest first; as each stands before the last, they are at most its place and one
unfoldable pub line_of : List SeenNode → ℕ → List ℕ
line_of nodes k = line_within nodes (k + 1) k

-- the status of the node of a place isn't okay
unfoldable pub is_off : List SeenNode → ℕ → Bool
is_off nodes k = not (option_map_or is_okay (slice_get nodes k) true)

-- a node is passed over where its own status, or that of a node above it, isn't okay
unfoldable pub is_passed : List SeenNode → ℕ → Bool
is_passed nodes k = list_any (is_off nodes) (line_of nodes k)

-- a slash and the node's name; nothing for the root, which has no parent
unfoldable pub path_part : List SeenNode → ℕ → List ℕ
path_part nodes k = option_map_or (λ parent. 47 ∷ option_map_or (λ node. node.name) (slice_get nodes k) []) (parent_of nodes k) []

-- the text, or one slash where there is none
abbrev pub or_slash : List ℕ → List ℕ
or_slash [] = 47 ∷ []
or_slash (b ∷ bs) = b ∷ bs

-- the path of a node: the names from below the root to the node, each behind a slash; for the root a slash
unfoldable pub path_of : List SeenNode → ℕ → List ℕ
path_of nodes k = or_slash (flat_map (path_part nodes) (reverse (line_of nodes k)))
