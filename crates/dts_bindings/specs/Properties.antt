-- What values are, the properties of a node by their names, and what these make of a node.
use Rattle.std.specs.Prelude.{ℕ, ◌==◌, ◌&&◌, ◌||◌, not, Bool, true, false, Option, Some, None, List, [], ◌∷◌, codes, if◌then◌else◌}
use Rattle.std.specs.List.{find, list_all, list_any, flat_map, filter_map}
use Rattle.std.specs.Option.{is_some, option_map_or, option_and_then}
use Rattle.std.specs.Str.{bytes_eq}
use Rattle.dts_tree.specs.declared.tree.Cell.{Cell}
use Rattle.dts_tree.specs.declared.tree.Cell.TheVariants as cells
use Rattle.dts_tree.specs.Tree.{SeenValue, SeenText, SeenCells, SeenProperty, SeenNode}

-- a value is cells
abbrev pub is_cells : SeenValue → Bool
is_cells (SeenCells cells) = true
is_cells other = false

-- the cells of a value
abbrev pub cells_of : SeenValue → List Cell
cells_of (SeenCells cells) = cells
cells_of other = []

-- the cells joined over the values, where every value is cells
unfoldable pub cells_in : List SeenValue → Option (List Cell)
cells_in values = if list_all is_cells values then Some (flat_map cells_of values) else None

-- a value is a string
abbrev pub is_text : SeenValue → Bool
is_text (SeenText text) = true
is_text other = false

-- the characters of a string
abbrev pub text_of : SeenValue → Option (List ℕ)
text_of (SeenText text) = Some text
text_of other = None

-- the strings, where every value is one
unfoldable pub texts_in : List SeenValue → Option (List (List ℕ))
texts_in values = if list_all is_text values then Some (filter_map text_of values) else None

-- a cell is a number
abbrev pub is_number : Cell → Bool
is_number (cells.Number n) = true
is_number (cells.Node node) = false

-- the number that a cell is
abbrev pub number_of : Cell → Option ℕ
number_of (cells.Number n) = Some n
number_of (cells.Node node) = None

-- the numbers, where every cell is one
unfoldable pub numbers_in : List Cell → Option (List ℕ)
numbers_in found = if list_all is_number found then Some (filter_map number_of found) else None

-- the numbers that all cells of the values are
unfoldable pub all_numbers : List SeenValue → Option (List ℕ)
all_numbers values = option_and_then numbers_in (cells_in values)

-- one number alone
abbrev pub only : List ℕ → Option ℕ
only (n ∷ []) = Some n
only others = None

-- two numbers alone
abbrev pub only_two : List ℕ → Option (ℕ × ℕ)
only_two (n ∷ m ∷ []) = Some (n, m)
only_two others = None

-- the values are one number cell
unfoldable pub one_number : List SeenValue → Option ℕ
one_number values = option_and_then only (all_numbers values)

-- the values are two number cells
unfoldable pub two_numbers : List SeenValue → Option (ℕ × ℕ)
two_numbers values = option_and_then only_two (all_numbers values)

-- a backslash stands in a text
unfoldable pub has_backslash : List ℕ → Bool
has_backslash text = list_any (λ b. b == 92) text

-- a string without a backslash
abbrev pub is_plain : SeenValue → Bool
is_plain (SeenText text) = not (has_backslash text)
is_plain other = false

-- the first property of this name
unfoldable pub property_named : List ℕ → SeenNode → Option SeenProperty
property_named name node = find (λ p. bytes_eq p.name name) node.properties

-- whether a node has a property of this name
unfoldable pub has_property : List ℕ → SeenNode → Bool
has_property name node = is_some (property_named name node)

-- the values of the property of this name; none where it is missing
unfoldable pub values_of : List ℕ → SeenNode → List SeenValue
values_of name node = option_map_or (λ p. p.values) (property_named name node) []

-- the values are the one string `okay` or `ok`
abbrev pub says_okay : List SeenValue → Bool
says_okay (SeenText text ∷ []) = bytes_eq text (codes "okay") || bytes_eq text (codes "ok")
says_okay others = false

-- a node's own `status` doesn't pass it over
unfoldable pub is_okay : SeenNode → Bool
is_okay node = option_map_or (λ p. says_okay p.values) (property_named (codes "status") node) true

-- a provider states how many cells its clocks' specifiers have
unfoldable pub is_provider : SeenNode → Bool
is_provider node = has_property (codes "#clock-cells") node

-- a consumer uses clocks and provides none
unfoldable pub is_consumer : SeenNode → Bool
is_consumer node = has_property (codes "clocks") node && not (is_provider node)

-- the number by which cells name the node
unfoldable pub phandle_of : SeenNode → Option ℕ
phandle_of node = one_number (values_of (codes "phandle") node)

-- how many cells stand behind the node in a specifier
unfoldable pub clock_cells_of : SeenNode → Option ℕ
clock_cells_of node = one_number (values_of (codes "#clock-cells") node)
