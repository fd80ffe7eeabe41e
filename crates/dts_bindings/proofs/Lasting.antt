-- A node binds no clocks for what it says, never for want of memory.
use Rattle.std.specs.Prelude.{Bool, true, false, Option, Some, None, Result, Ok, Err, IfErr, if◌then◌else◌}
use Rattle.std.specs.Option.{option_map_or}
use Rattle.dts_tree.specs.Tree.{SeenNode}
use Rattle.dts_bindings.specs.declared.fault.BindingFault.{BindingFault}
use Rattle.dts_bindings.specs.declared.fault.BindingFault.TheVariants as faults
use Rattle.dts_bindings.specs.declared.table.Row.{Row}
use Rattle.dts_bindings.specs.Binding.{SeenBinding, filled, binding_as, binding_of}
use Rattle.dts_bindings.specs.Table.{row_of, states_cells}

-- a fault that isn't want of memory
abbrev pub IsNotMemory : BindingFault → Type 0
IsNotMemory faults.NoMemory = ⊥
IsNotMemory fault = Unit {0}

-- refused for another reason than want of memory, if at all
abbrev pub Lasts : {X : Type 0} → Result X BindingFault → Type 0
Lasts r = IfErr r IsNotMemory

either : {X : Type 0} (b : Bool) (one other : Result X BindingFault) → Lasts one → Lasts other → Lasts (if b then one else other)
either true one other h g = h
either false one other h g = g

mapped : {X Y : Type 0} (o : Option X) (f : X → Result Y BindingFault) (other : Result Y BindingFault) → ((x : X) → Lasts (f x)) → Lasts other → Lasts (option_map_or f o other)
mapped None f other h g = g
mapped (Some x) f other h g = h x

as-lasts : (row : Row) (node : SeenNode) → Lasts (binding_as row node)
unfolding binding_as
as-lasts row node =
    let found : Result SeenBinding BindingFault = option_map_or (λ b. Ok b) (filled row node) (Err faults.MissingProperty) in
    either (states_cells row node) found (Err faults.NoCells) (mapped (filled row node) (λ b. Ok b) (Err faults.MissingProperty) (λ b. tt) tt) tt

pub binding-lasts : (node : SeenNode) → Lasts (binding_of node)
unfolding binding_of
binding-lasts node = mapped (row_of node) (λ row. binding_as row node) (Err faults.UnknownCompatible) (λ row. as-lasts row node) tt
