-- The texts of faults.
use Rattle.std.specs.Prelude.{ℕ, ◌++◌, List, codes}
use Rattle.std.specs.Fmt.{decimal}
use Rattle.dts_tree.specs.declared.fault.TreeFault.{TreeFault}
use Rattle.dts_tree.specs.declared.fault.TreeFault.TheVariants as faults

-- what is printed of a fault of a tree
abbrev pub fault_text : TreeFault → List ℕ
fault_text (faults.Syntax line) = codes "line " ++ (decimal line ++ codes ": this can't stand here")
fault_text (faults.TwiceDefined line) = codes "line " ++ (decimal line ++ codes ": this is defined twice")
fault_text (faults.NoSuchLabel line) = codes "line " ++ (decimal line ++ codes ": no node has this label")
fault_text (faults.TooDeep line) = codes "line " ++ (decimal line ++ codes ": this node is below 64 others")
fault_text faults.NoMemory = codes "out of memory"
