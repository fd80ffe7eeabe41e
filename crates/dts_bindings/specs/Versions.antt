-- What a version of bundles knows of a node: a property that it doesn't know is passed over, whatever its values.
use Rattle.std.specs.Prelude.{ℕ, ◌==◌, ◌||◌, not, Bool, List, codes, filter, map}
use Rattle.std.specs.Str.{bytes_eq}
use Rattle.dts_tree.specs.Tree.{SeenNode}

-- version 2 knows the properties of all names, version 1 all but these
unfoldable pub knows : ℕ → List ℕ → Bool
knows version name = version == 2 || not (bytes_eq name (codes "bank,ops-parent-enable") || bytes_eq name (codes "bank,set-rate-ungate"))

-- a node, without the properties that the version doesn't know
unfoldable pub known : ℕ → SeenNode → SeenNode
known version node = record node { properties = filter (λ p. knows version p.name) node.properties }

-- nodes, each without them
abbrev pub all_known : ℕ → List SeenNode → List SeenNode
all_known version nodes = map (known version) nodes
