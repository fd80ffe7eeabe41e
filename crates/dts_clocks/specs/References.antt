-- What the first cell of a specifier refers to.
use Rattle.std.specs.Prelude.{ℕ, ◌==◌, ◌&&◌, Bool, true, false, not, if◌then◌else◌, Option, Some, None, List, [], ◌∷◌, slice_get}
use Rattle.std.specs.List.{position}
use Rattle.std.specs.Option.{option_map_or}
use Rattle.dts_tree.specs.declared.tree.Cell.{Cell}
use Rattle.dts_tree.specs.declared.tree.Cell.TheVariants as cells
use Rattle.dts_tree.specs.Tree.{SeenNode}
use Rattle.dts_bindings.specs.Properties.{is_provider, phandle_of, clock_cells_of}
use Rattle.dts_clocks.specs.declared.reference.Reference.{Reference}
use Rattle.dts_clocks.specs.declared.reference.Reference.TheVariants.{Null, Whole, Begun, Lacking}
use Rattle.dts_clocks.specs.Above.{is_passed}

-- the node has this phandle
unfoldable pub has_phandle : ℕ → SeenNode → Bool
has_phandle v node = option_map_or (λ p. p == v) (phandle_of node) false

-- the node that has this phandle, whether or not it is passed over
unfoldable pub node_of_phandle : List SeenNode → ℕ → Option ℕ
node_of_phandle nodes v = position (has_phandle v) nodes

-- the node that a cell means
abbrev pub node_of : List SeenNode → Cell → Option ℕ
node_of nodes (cells.Node n) = Some n
node_of nodes (cells.Number v) = node_of_phandle nodes v

-- a provider by the number of cells that stand behind a reference to it
abbrev pub source_by : ℕ → Option ℕ → Reference
source_by k count = option_map_or (λ n. if n == 0 then Whole k else if n == 1 then Begun k else Lacking) count Lacking

-- the node of a place as a provider; a node that is passed over is none
unfoldable pub source_at : List SeenNode → ℕ → Reference
source_at nodes k =
    option_map_or (λ node. if is_provider node && not (is_passed nodes k) then source_by k (clock_cells_of node) else Lacking) (slice_get nodes k) Lacking

-- the cell is the number 0
abbrev pub is_null : Cell → Bool
is_null (cells.Number v) = v == 0
is_null (cells.Node n) = false

-- what a cell refers to
unfoldable pub reference : List SeenNode → Cell → Reference
reference nodes cell = if is_null cell then Null else option_map_or (source_at nodes) (node_of nodes cell) Lacking

-- the cells behind an identifier cell, where there is one
abbrev pub behind_identifier : List Cell → Option (List Cell)
behind_identifier [] = None
behind_identifier (cells.Node n ∷ rest) = None
behind_identifier (cells.Number i ∷ rest) = Some rest

-- the cells behind a reference and its identifier; behind a null, which is no specifier, none are read
abbrev pub behind : Reference → List Cell → Option (List Cell)
behind (Whole p) rest = Some rest
behind (Begun p) rest = behind_identifier rest
behind Null rest = None
behind Lacking rest = None

-- there are cells
abbrev pub are_there : List Cell → Bool
are_there [] = false
are_there (cell ∷ rest) = true

-- the first specifier of the cells can be read, and cells are left over
abbrev pub leaves_over : List SeenNode → List Cell → Bool
leaves_over nodes [] = false
leaves_over nodes (cell ∷ rest) = option_map_or are_there (behind (reference nodes cell) rest) false
