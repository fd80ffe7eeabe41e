-- The texts of faults.
use Rattle.std.specs.Prelude.{ℕ, ◌++◌, List, codes}
use Rattle.std.specs.Fmt.{decimal}
use Rattle.dts_clocks.specs.declared.fault.DtsFault.{DtsFault}
use Rattle.dts_clocks.specs.declared.fault.DtsFault.TheVariants as faults

-- what is printed of a fault of a source
abbrev pub fault_text : DtsFault → List ℕ
fault_text (faults.UnknownCompatible line) = codes "line " ++ (decimal line ++ codes ": unknown compatible")
fault_text (faults.NoCells line) = codes "line " ++ (decimal line ++ codes ": wrong number of clock cells")
fault_text (faults.MissingProperty line) = codes "line " ++ (decimal line ++ codes ": a property is missing")
fault_text (faults.BadName line) = codes "line " ++ (decimal line ++ codes ": this is no name of a clock")
fault_text (faults.TwiceNamed line) = codes "line " ++ (decimal line ++ codes ": a clock has this name")
fault_text (faults.BadSpecifier line) = codes "line " ++ (decimal line ++ codes ": a specifier names no clock")
fault_text (faults.BadAssigned line) = codes "line " ++ (decimal line ++ codes ": too many parents or rates")
fault_text faults.NoMemory = codes "out of memory"
