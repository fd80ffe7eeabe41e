-- The texts of faults.
use Rattle.std.specs.Prelude.{ℕ, ◌++◌, List, codes}
use Rattle.std.specs.Fmt.{decimal}
use Rattle.dts_tokens.specs.declared.token.TokenFault.{TokenFault}
use Rattle.dts_tokens.specs.declared.token.TokenFault.TheVariants as faults

-- what is printed of a fault of cutting a source
abbrev pub fault_text : TokenFault → List ℕ
fault_text (faults.BadChar line) = codes "line " ++ (decimal line ++ codes ": a character that fits nowhere")
fault_text (faults.OpenString line) = codes "line " ++ (decimal line ++ codes ": a string that isn't closed")
fault_text (faults.OpenComment line) = codes "line " ++ (decimal line ++ codes ": a comment that isn't closed")
fault_text (faults.NumberTooBig line) = codes "line " ++ (decimal line ++ codes ": a number that is too big")
fault_text faults.NoMemory = codes "out of memory"
