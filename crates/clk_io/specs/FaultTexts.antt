-- The texts of faults.
use Rattle.std.specs.Prelude.{ℕ, List, codes}
use Rattle.clk_io.specs.declared.faults.ReadFault.{ReadFault}
use Rattle.clk_io.specs.declared.faults.ReadFault.TheVariants as reading
use Rattle.clk_io.specs.declared.faults.WriteFault.{WriteFault}
use Rattle.clk_io.specs.declared.faults.WriteFault.TheVariants as writing
use Rattle.clk_io.specs.declared.faults.PrintFault.{PrintFault}
use Rattle.clk_io.specs.declared.faults.PrintFault.TheVariants as printing

-- what is printed of a fault of reading
abbrev pub read_text : ReadFault → List ℕ
read_text reading.Read = codes "a read failed"
read_text reading.TooLong = codes "the input is too long"
read_text reading.NoMemory = codes "out of memory"

-- what is printed of a fault of writing
abbrev pub write_text : WriteFault → List ℕ
write_text writing.Write = codes "a write failed"

-- what is printed of a fault of printing
abbrev pub print_text : PrintFault → List ℕ
print_text printing.Write = codes "a write failed"
print_text printing.NoMemory = codes "out of memory"
