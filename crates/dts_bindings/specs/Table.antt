-- The table of bindings: its rows, and which of them a node has.
use Rattle.std.specs.Prelude.{ℕ, ◌==◌, Bool, false, Option, Some, None, List, codes, slice_get, if◌then◌else◌}
use Rattle.std.specs.List.{filter_map}
use Rattle.std.specs.Option.{option_map_or}
use Rattle.std.specs.Str.{bytes_eq}
use Rattle.dts_tree.specs.Tree.{SeenValue, SeenText, SeenNode}
use Rattle.dts_bindings.specs.declared.table.Row.{Row}
use Rattle.dts_bindings.specs.declared.table.Row.TheVariants.{Fixed, Factor, Gate, Gates, Mux, Divider, Pll}
use Rattle.dts_bindings.specs.declared.bound.Wants.{Wants}
use Rattle.dts_bindings.specs.declared.bound.Wants.TheVariants as wants
use Rattle.dts_bindings.specs.Properties.{values_of}
use Rattle.dts_bindings.specs.Properties.{clock_cells_of}

-- the row that a string names
unfoldable pub row_named : List ℕ → Option Row
row_named text =
    if bytes_eq text (codes "fixed-clock") then Some Fixed
    else (if bytes_eq text (codes "fixed-factor-clock") then Some Factor
    else (if bytes_eq text (codes "bank,gate-clock") then Some Gate
    else (if bytes_eq text (codes "bank,gates-clock") then Some Gates
    else (if bytes_eq text (codes "bank,mux-clock") then Some Mux
    else (if bytes_eq text (codes "bank,divider-clock") then Some Divider
    else (if bytes_eq text (codes "bank,pll-clock") then Some Pll
    else None))))))

-- the row that a value names
abbrev pub row_in : SeenValue → Option Row
row_in (SeenText text) = row_named text
row_in other = None

-- the first string of `compatible` that names a row decides
unfoldable pub row_of : SeenNode → Option Row
row_of node = slice_get (filter_map row_in (values_of (codes "compatible") node)) 0

-- how many cells stand behind the node in a specifier: the gate's, where there are many
abbrev pub cells_behind : Row → ℕ
cells_behind Gates = 1
cells_behind other = 0

-- a node states the cells of its row
unfoldable pub states_cells : Row → SeenNode → Bool
states_cells row node = option_map_or (λ n. n == cells_behind row) (clock_cells_of node) false

-- how many specifiers a row wants in `clocks`
abbrev pub wants_of : Row → Wants
wants_of Fixed = wants.Nothing
wants_of Mux = wants.Some
wants_of other = wants.One
