-- What a provider's node says of its clocks, or the first fault.
use Rattle.std.specs.Prelude.{◌≡◌, ℕ, ◌==◌, ◌&&◌, not, Bool, true, Option, Some, None, Result, Ok, Err, List, [], length, map, codes, if◌then◌else◌}
use Rattle.std.specs.List.{list_all}
use Rattle.std.specs.Option.{option_map_or}
use Rattle.clk_base.specs.declared.flags.ClkFlags.{ClkFlags}
use Rattle.dts_tree.specs.declared.tree.Cell.{Cell}
use Rattle.dts_tree.specs.Tree.{SeenValue, SeenText, SeenNode}
use Rattle.dts_bindings.specs.declared.bound.Binding.{Binding}
use Rattle.dts_bindings.specs.declared.bound.Wants.{Wants}
use Rattle.dts_bindings.specs.declared.fault.BindingFault.{BindingFault}
use Rattle.dts_bindings.specs.declared.fault.BindingFault.TheVariants as faults
use Rattle.dts_bindings.specs.declared.table.Row.{Row}
use Rattle.dts_bindings.specs.declared.table.Row.TheVariants.{Fixed}
use Rattle.dts_bindings.specs.Properties.{values_of, cells_in, has_backslash}
use Rattle.dts_bindings.specs.Formed.{is_sound}
use Rattle.dts_bindings.specs.Table.{row_of, cells_behind, states_cells, wants_of}
use Rattle.dts_bindings.specs.Kinds.{◌>>=◌, flags_in}
use Rattle.dts_bindings.specs.Clocks.{SeenClock, seen_clock, clocks_in}

-- how many cells a specifier of the node has behind it, what its `clocks` hold, its clocks and their flags
pub record SeenBinding : Type 0 where
  pub cells : ℕ
  pub wants : Wants
  pub inputs : List Cell
  pub clocks : List SeenClock
  pub flags : ClkFlags

-- what a binding that a program has read shows
abbrev pub seen_binding : Binding → SeenBinding
seen_binding b = record { cells = b.cells; wants = b.wants; inputs = b.inputs.items; clocks = map seen_clock b.clocks.items; flags = b.flags }

-- a fixed clock has no `clocks`; of the others they are cells, one at least
unfoldable pub inputs_in : Row → SeenNode → Option (List Cell)
inputs_in Fixed node = Some []
inputs_in other node = cells_in (values_of (codes "clocks") node) >>= λ found. if length found == 0 then None else Some found

-- a fixed clock has no flags
unfoldable pub row_flags : Row → SeenNode → Option ClkFlags
row_flags Fixed node = Some (record { 0 = 0 })
row_flags other node = flags_in node

-- no string of `compatible` has a backslash
abbrev pub is_clean : SeenValue → Bool
is_clean (SeenText text) = not (has_backslash text)
is_clean other = true

-- what the properties of a row say, where each that has to be there is, and each that is has its form
unfoldable pub filled : Row → SeenNode → Option SeenBinding
filled row node =
    if is_sound node && list_all is_clean (values_of (codes "compatible") node) then
    (inputs_in row node >>= λ inputs. clocks_in row node >>= λ clocks. row_flags row node >>= λ flags.
    Some (record { cells = cells_behind row; wants = wants_of row; inputs = inputs; clocks = clocks; flags = flags }))
    else None

-- what a node of this row says, or its first fault
unfoldable pub binding_as : Row → SeenNode → Result SeenBinding BindingFault
binding_as row node = if states_cells row node then option_map_or (λ b. Ok b) (filled row node) (Err faults.MissingProperty) else Err faults.NoCells

-- what a provider's node says, or its first fault
unfoldable pub binding_of : SeenNode → Result SeenBinding BindingFault
binding_of node = option_map_or (λ row. binding_as row node) (row_of node) (Err faults.UnknownCompatible)

-- a program's result shows what the node says, or is its fault, unless memory ran out
abbrev pub Binds : Result Binding BindingFault → Result SeenBinding BindingFault → Type 0
Binds (Ok b) said = said ≡ Ok (seen_binding b)
Binds (Err faults.UnknownCompatible) said = said ≡ Err faults.UnknownCompatible
Binds (Err faults.NoCells) said = said ≡ Err faults.NoCells
Binds (Err faults.MissingProperty) said = said ≡ Err faults.MissingProperty
Binds (Err faults.NoMemory) said = Unit {0}
