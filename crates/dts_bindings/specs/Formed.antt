-- What is asked of the properties that any node may have, and of those of a consumer.
use Rattle.std.specs.Prelude.{◌&&◌, ◌||◌, not, Bool, true, false, codes}
use Rattle.std.specs.List.{list_all}
use Rattle.std.specs.Option.{is_some, option_map_or}
use Rattle.dts_tree.specs.Tree.{SeenValue, SeenCells, SeenNode}
use Rattle.dts_bindings.specs.Properties.{property_named, values_of, is_cells, is_number, is_plain, one_number}
use Rattle.dts_bindings.specs.Properties.{is_consumer}

-- a value is number cells
abbrev pub is_numbers : SeenValue → Bool
is_numbers (SeenCells cells) = list_all is_number cells
is_numbers other = false

-- a `phandle`, where there is one, is one number cell
unfoldable pub has_good_phandle : SeenNode → Bool
has_good_phandle node = option_map_or (λ p. is_some (one_number p.values)) (property_named (codes "phandle") node) true

-- clocks and parents that are assigned are cells, and rates number cells
unfoldable pub has_good_assigned : SeenNode → Bool
has_good_assigned node =
    list_all is_cells (values_of (codes "assigned-clocks") node)
    && list_all is_cells (values_of (codes "assigned-clock-parents") node)
    && list_all is_numbers (values_of (codes "assigned-clock-rates") node)

-- the properties that any node may have are formed
unfoldable pub is_sound : SeenNode → Bool
is_sound node = has_good_phandle node && has_good_assigned node

-- a consumer's clocks are cells, and their names strings without a backslash
unfoldable pub has_good_clocks : SeenNode → Bool
has_good_clocks node = list_all is_cells (values_of (codes "clocks") node) && list_all is_plain (values_of (codes "clock-names") node)

-- the properties that any node may have are formed, and those of a consumer where the node is one; of a provider's own properties nothing is asked
unfoldable pub is_formed : SeenNode → Bool
is_formed node = is_sound node && (not (is_consumer node) || has_good_clocks node)
