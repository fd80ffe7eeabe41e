-- The texts of faults.
use Rattle.std.specs.Prelude.{ℕ, List, codes}
use Rattle.clk_base.specs.declared.fault.AddFault.{AddFault}
use Rattle.clk_base.specs.declared.fault.AddFault.TheVariants as adding
use Rattle.clk_base.specs.declared.fault.DescFault.{DescFault}
use Rattle.clk_base.specs.declared.fault.DescFault.TheVariants as checking

-- what is printed where a clock can't be added
abbrev pub add_text : AddFault → List ℕ
add_text adding.TwiceNamed = codes "a clock has this name"
add_text adding.NoMemory = codes "out of memory"

-- what is printed of a broken rule
abbrev pub desc_text : DescFault → List ℕ
desc_text (checking.TooMany _) = codes "too many clocks, parents or levels"
desc_text (checking.BadRange _) = codes "a parameter is out of range"
desc_text (checking.FieldOutOfBank _) = codes "a field is outside of the bank"
desc_text (checking.FieldOverlap _) = codes "two fields share a bit"
desc_text (checking.Cycle _) = codes "a clock is its own possible ancestor"
desc_text (checking.TooMuchWork _) = codes "rounding takes too much work"
desc_text checking.NoMemory = codes "out of memory"
