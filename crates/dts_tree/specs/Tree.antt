-- The tree that the tables hold, and what a tree shows.
use Rattle.std.specs.Prelude.{ℕ, zero, suc, ◌+◌, ◌++◌, ◌-◌, ◌==◌, Option, Some, None, List, [], ◌∷◌, map, filter, slice_range, slice_get, string_bytes}
use Rattle.std.specs.List.{filter_map}
use Rattle.std.specs.Option.{option_map, option_map_or}
use Rattle.dts_tokens.specs.Tokens.{text_of}
use Rattle.dts_tree.specs.declared.rows.Item.{Item}
use Rattle.dts_tree.specs.declared.rows.Item.TheVariants as items
use Rattle.dts_tree.specs.declared.rows.NodeRow.{NodeRow}
use Rattle.dts_tree.specs.declared.rows.PropertyRow.{PropertyRow}
use Rattle.dts_tree.specs.declared.rows.ValueRow.{ValueRow}
use Rattle.dts_tree.specs.declared.rows.ValueRow.TheVariants as values
use Rattle.dts_tree.specs.declared.tree.Cell.{Cell}
use Rattle.dts_tree.specs.declared.tree.Cell.TheVariants as cells
use Rattle.dts_tree.specs.declared.tree.DtsNode.{DtsNode}
use Rattle.dts_tree.specs.declared.tree.DtsProperty.{DtsProperty}
use Rattle.dts_tree.specs.declared.tree.DtsTree.{DtsTree}
use Rattle.dts_tree.specs.declared.tree.DtsValue.{DtsValue}
use Rattle.dts_tree.specs.declared.tree.DtsValue.TheVariants as shown
use Rattle.dts_tree.specs.Grown.{Tables}

-- a value: the characters of a string, cells, bytes, or the number of a node
pub data SeenValue : Type 0 where
  SeenText : List ℕ → SeenValue
  SeenCells : List Cell → SeenValue
  SeenBytes : List ℕ → SeenValue
  SeenTarget : ℕ → SeenValue

-- a property: its name, the line of its name, and its values in order
pub record SeenProperty : Type 0 where
  pub name : List ℕ
  pub line : ℕ
  pub values : List SeenValue

-- a node: its name, the line of its name, the place of the node that it stands in, and its properties in order
pub record SeenNode : Type 0 where
  pub name : List ℕ
  pub line : ℕ
  pub parent : Option ℕ
  pub properties : List SeenProperty

-- what a value of a tree shows
abbrev pub seen_value : DtsValue → SeenValue
seen_value (shown.Text text) = SeenText (string_bytes text)
seen_value (shown.Cells cells) = SeenCells cells.items
seen_value (shown.Bytes bytes) = SeenBytes bytes.items
seen_value (shown.Node node) = SeenTarget node

-- what a property of a tree shows
abbrev pub seen_property : DtsProperty → SeenProperty
seen_property p = record { name = string_bytes p.name; line = p.line; values = map seen_value p.values.items }

-- what a node of a tree shows
abbrev pub seen_node : DtsNode → SeenNode
seen_node n = record { name = string_bytes n.name; line = n.line; parent = n.parent; properties = map seen_property n.properties.items }

-- what a tree shows: its nodes in order
abbrev pub seen : DtsTree → List SeenNode
seen tree = map seen_node tree.nodes.items

-- a cell is a number, or the node that a reference means
abbrev pub cell_in : List ℕ → Item → Option Cell
cell_in targets (items.Number n) = Some (cells.Number n.value)
cell_in targets (items.Reference k) = option_map cells.Node (slice_get targets k)
cell_in targets (items.Byte b) = None

-- the byte of an item, if it is one
abbrev pub byte_in : Item → Option ℕ
byte_in (items.Byte b) = Some b
byte_in other = None

-- a value of a property
unfoldable pub value_in : List ℕ → List Item → List ℕ → ValueRow → Option SeenValue
value_in text found targets (values.Text token) = Some (SeenText (slice_range text (token.from + 1) (token.to - 1)))
value_in text found targets (values.Cells part) = Some (SeenCells (filter_map (cell_in targets) (slice_range found part.from part.to)))
value_in text found targets (values.Bytes part) = Some (SeenBytes (filter_map byte_in (slice_range found part.from part.to)))
value_in text found targets (values.Node k) = option_map SeenTarget (slice_get targets k)

-- a property, with its values in order
unfoldable pub property_in : List ℕ → Tables → List ℕ → PropertyRow → SeenProperty
property_in text t targets p = record { name = text_of text p.name; line = p.name.line; values = filter_map (value_in text t.items targets) (slice_range t.values p.from p.to) }

-- the name of a node; the root has none
abbrev pub node_name : List ℕ → NodeRow → List ℕ
node_name text row = option_map_or (λ parent. text_of text row.name) row.parent []

-- the node of a number, with those of the properties that are its own, in order
abbrev pub node_in : List ℕ → (PropertyRow → SeenProperty) → List PropertyRow → ℕ → NodeRow → SeenNode
node_in text shows properties k row = record { name = node_name text row; line = row.name.line; parent = row.parent; properties = map shows (filter (λ p. p.node == k) properties) }

-- the nodes in the order of the source, each with its properties
abbrev pub nodes_in : List ℕ → (PropertyRow → SeenProperty) → List PropertyRow → ℕ → List NodeRow → List SeenNode
nodes_in text shows properties k [] = []
nodes_in text shows properties k (row ∷ rows) = node_in text shows properties k row ∷ nodes_in text shows properties (k + 1) rows

-- one property more at the node of a place
abbrev pub add_at : ℕ → SeenProperty → List SeenNode → List SeenNode
add_at k p [] = []
add_at zero p (n ∷ ns) = record n { properties = n.properties ++ p ∷ [] } ∷ ns
add_at (suc k) p (n ∷ ns) = n ∷ add_at k p ns

-- the tree that the tables hold
unfoldable pub tree_of : List ℕ → Tables → List ℕ → List SeenNode
tree_of text t targets = nodes_in text (property_in text t targets) t.properties 0 t.nodes
