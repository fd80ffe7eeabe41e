-- Every text has its tokens, or a fault that isn't want of memory.
use Rattle.std.proofs.Common.{◌⊎◌, ℕ, List, inl, inr}
use Rattle.dts_tokens.specs.declared.flaw.Flaw.{Flaw}
use Rattle.dts_tokens.specs.declared.flaw.Flaw.TheVariants as flaws
use Rattle.dts_tokens.specs.declared.token.Token.{Token}
use Rattle.dts_tokens.specs.declared.token.TokenFault.{TokenFault}
use Rattle.dts_tokens.specs.declared.token.TokenFault.TheVariants as faults
use Rattle.dts_tokens.specs.Faults.{fault_on}
use Rattle.dts_tokens.specs.Tokens.{Tokens, IsFaultOf}
use Rattle.dts_tokens.proofs.Cutting.{IsFaultOf-fault_on}
use Rattle.dts_tokens.proofs.Decided.{decided}

-- a fault that isn't want of memory
abbrev pub IsNotMemory : TokenFault → Type 0
IsNotMemory faults.NoMemory = ⊥
IsNotMemory fault = Unit {0}

lasts : (flaw : Flaw) (line : ℕ) → IsNotMemory (fault_on flaw line)
lasts flaws.BadChar line = tt
lasts flaws.OpenString line = tt
lasts flaws.OpenComment line = tt
lasts flaws.NumberTooBig line = tt

pub cut_or_refused : (text : List ℕ) → ((found : List Token) × Tokens text found) ⊎ ((fault : TokenFault) × IsNotMemory fault × IsFaultOf text fault)
cut_or_refused text =
    elim (decided text) [
      | inl x ↦ inl x
      | inr x ↦ inr (fault_on x.0 x.1, lasts x.0 x.1, IsFaultOf-fault_on text x.0 x.1 x.2)
    ]
