-- The texts of faults.
use Rattle.std.specs.Prelude.{ℕ, List, codes}
use Rattle.dts_bindings.specs.declared.fault.BindingFault.{BindingFault}
use Rattle.dts_bindings.specs.declared.fault.BindingFault.TheVariants as faults

-- what is printed of a fault of a node
abbrev pub fault_text : BindingFault → List ℕ
fault_text faults.UnknownCompatible = codes "no such provider is known"
fault_text faults.NoCells = codes "#clock-cells is missing or wrong"
fault_text faults.MissingProperty = codes "a property is missing or wrong"
fault_text faults.NoMemory = codes "out of memory"
