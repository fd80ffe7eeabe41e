-- A fault is a flaw with its line.
use Rattle.std.specs.Prelude.{ℕ}
use Rattle.dts_tokens.specs.declared.flaw.Flaw.{Flaw}
use Rattle.dts_tokens.specs.declared.flaw.Flaw.TheVariants as flaws
use Rattle.dts_tokens.specs.declared.token.TokenFault.{TokenFault}
use Rattle.dts_tokens.specs.declared.token.TokenFault.TheVariants as faults

-- the fault that tells this flaw and its line
abbrev pub fault_on : Flaw → ℕ → TokenFault
fault_on flaws.BadChar line = faults.BadChar line
fault_on flaws.OpenString line = faults.OpenString line
fault_on flaws.OpenComment line = faults.OpenComment line
fault_on flaws.NumberTooBig line = faults.NumberTooBig line
