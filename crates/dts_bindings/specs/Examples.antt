-- Small nodes, and what they say of clocks, computed.
use Rattle.std.specs.Prelude.{◌≡◌, ℕ, true, false, Some, None, Ok, Err, List, [], ◌∷◌, codes, refl}
use Rattle.clk_base.specs.declared.clock.Kind.TheVariants as kinds
use Rattle.dts_tree.specs.declared.tree.Cell.TheVariants as cells
use Rattle.dts_tree.specs.Tree.{SeenValue, SeenText, SeenCells, SeenProperty, SeenNode}
use Rattle.dts_bindings.specs.declared.bound.Wants.TheVariants as wants
use Rattle.dts_bindings.specs.declared.fault.BindingFault.TheVariants as faults
use Rattle.dts_bindings.specs.Properties.{cells_in, numbers_in, all_numbers, one_number, has_backslash, property_named, has_property, values_of, is_provider, is_consumer, clock_cells_of}
use Rattle.dts_bindings.specs.Versions.{knows, known}
use Rattle.dts_bindings.specs.Formed.{has_good_phandle, has_good_assigned, is_sound, has_good_clocks, is_formed}
use Rattle.dts_bindings.specs.Table.{row_named, row_of, states_cells}
use Rattle.dts_bindings.specs.Kinds.{number, mark, fixed_kind, flag, flags_in}
use Rattle.dts_bindings.specs.Clocks.{names_in, own_name, one_clock, as_many, identifiers, gates, clocks_in}
use Rattle.dts_bindings.specs.Binding.{inputs_in, row_flags, filled, binding_as, binding_of}

-- a property of these values
abbrev pub property : List ℕ → List SeenValue → SeenProperty
property name values = record { name = name; line = 2; values = values }

-- a property of one number cell
abbrev pub cell : List ℕ → ℕ → SeenProperty
cell name n = property name (SeenCells (cells.Number n ∷ []) ∷ [])

-- a property of one string
abbrev pub text : List ℕ → List ℕ → SeenProperty
text name characters = property name (SeenText characters ∷ [])

-- a node of these properties
abbrev pub node : List ℕ → List SeenProperty → SeenNode
node name properties = record { name = name; line = 1; parent = Some 0; properties = properties }

-- an oscillator is named after its node
abbrev pub oscillator : SeenNode
oscillator = node (codes "osc24M@0") (text (codes "compatible") (codes "fixed-clock") ∷ cell (codes "#clock-cells") 0 ∷ cell (codes "clock-frequency") 24000000 ∷ [])

oscillator-bound : binding_of oscillator ≡ Ok (record {
  cells = 0;
  wants = wants.Nothing;
  inputs = [];
  clocks = record { name = codes "osc24M"; identifier = 0; kind = kinds.FixedRate 24000000 } ∷ [];
  flags = record { 0 = 0 };
})
unfolding binding_of binding_as row_of row_named states_cells clock_cells_of one_number all_numbers numbers_in cells_in values_of property_named filled is_sound has_good_phandle has_good_assigned inputs_in clocks_in one_clock fixed_kind number own_name row_flags has_backslash
oscillator-bound = refl

-- gates have the identifiers that are stated, and these are their bits; a flag is for all of them
abbrev pub bank : SeenNode
bank = node (codes "clk@10") (text (codes "compatible") (codes "bank,gates-clock") ∷ cell (codes "#clock-cells") 1 ∷ cell (codes "clocks") 1 ∷ cell (codes "bank,reg") 3
    ∷ property (codes "clock-indices") (SeenCells (cells.Number 0 ∷ []) ∷ SeenCells (cells.Number 5 ∷ []) ∷ [])
    ∷ property (codes "clock-output-names") (SeenText (codes "ahb_dma") ∷ SeenText (codes "ahb_uart") ∷ []) ∷ property (codes "bank,critical") [] ∷ [])

bank-bound : binding_of bank ≡ Ok (record {
  cells = 1;
  wants = wants.One;
  inputs = cells.Number 1 ∷ [];
  clocks = record { name = codes "ahb_dma"; identifier = 0; kind = kinds.Gate 3 0 false } ∷ record { name = codes "ahb_uart"; identifier = 5; kind = kinds.Gate 3 5 false } ∷ [];
  flags = record { 0 = 32 };
})
unfolding binding_of binding_as row_of row_named states_cells clock_cells_of one_number all_numbers numbers_in cells_in values_of property_named filled is_sound has_good_phandle has_good_assigned inputs_in clocks_in gates number names_in has_backslash identifiers as_many row_flags flags_in flag mark
bank-bound = refl

-- a node with a mark that only version 2 knows, and one that each version knows
abbrev pub fed : List SeenValue → SeenNode
fed values = node (codes "half") (property (codes "bank,ops-parent-enable") values ∷ property (codes "bank,critical") [] ∷ [])

-- in version 1 the mark is passed over, also if it has a value, as no mark may in version 2
marks-known : (flags_in (known 2 (fed [])) ≡ Some (record { 0 = 96 })) × (flags_in (known 1 (fed [])) ≡ Some (record { 0 = 32 }))
    × (flags_in (known 2 (fed (SeenCells [] ∷ []))) ≡ None) × (flags_in (known 1 (fed (SeenCells [] ∷ []))) ≡ Some (record { 0 = 32 }))
unfolding known knows flags_in flag mark property_named
marks-known = (refl, refl, refl, refl)

-- a node without a string of the table
abbrev pub unknown : SeenNode
unknown = node (codes "a") (text (codes "compatible") (codes "fixed-rate") ∷ [])

-- a fixed clock by its second string, which states other cells than the table's
abbrev pub of_one_cell : SeenNode
of_one_cell = node (codes "b") (property (codes "compatible") (SeenText (codes "vendor,osc") ∷ SeenText (codes "fixed-clock") ∷ []) ∷ cell (codes "#clock-cells") 1 ∷ [])

-- a fixed clock without a rate
abbrev pub without_rate : SeenNode
without_rate = node (codes "c") (text (codes "compatible") (codes "fixed-clock") ∷ cell (codes "#clock-cells") 0 ∷ [])

-- the faults in their order: no string of the table, other cells than the table's, and a property that is missing
faults-bound : (binding_of unknown ≡ Err faults.UnknownCompatible) × (binding_of of_one_cell ≡ Err faults.NoCells) × (binding_of without_rate ≡ Err faults.MissingProperty)
unfolding binding_of binding_as row_of row_named states_cells clock_cells_of one_number all_numbers numbers_in cells_in values_of property_named filled is_sound has_good_phandle has_good_assigned inputs_in clocks_in one_clock fixed_kind number has_backslash
faults-bound = (refl, refl, refl)

-- a consumer's names are strings; a mark of a gate has no value
abbrev pub consumer : List SeenProperty → SeenNode
consumer more = node (codes "serial@400") (property (codes "clocks") (SeenCells (cells.Node 2 ∷ cells.Number 5 ∷ []) ∷ []) ∷ more)

consumer-formed : (is_formed (consumer (text (codes "clock-names") (codes "baud") ∷ [])) ≡ true) × (is_formed (consumer (cell (codes "clock-names") 0 ∷ [])) ≡ false)
unfolding is_formed is_sound has_good_phandle has_good_assigned is_consumer is_provider has_property has_good_clocks values_of property_named has_backslash
consumer-formed = (refl, refl)
