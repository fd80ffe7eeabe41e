-- Faults that are told, and the first of them.
use Rattle.std.specs.Prelude.{◌≡◌, ℕ, Option, Some}
use Rattle.bundle_text.specs.Firsts.{First}
use Rattle.dts_clocks.specs.declared.fault.DtsFault.{DtsFault}
use Rattle.dts_clocks.specs.declared.fault.DtsFault.TheVariants.{UnknownCompatible, NoCells, MissingProperty, BadName, TwiceNamed, BadSpecifier, BadAssigned, NoMemory}

-- what a fault means; want of memory means nothing
abbrev pub UnlessMemory : DtsFault → Type 0 → Type 0
UnlessMemory (UnknownCompatible line) P = P
UnlessMemory (NoCells line) P = P
UnlessMemory (MissingProperty line) P = P
UnlessMemory (BadName line) P = P
UnlessMemory (TwiceNamed line) P = P
UnlessMemory (BadSpecifier line) P = P
UnlessMemory (BadAssigned line) P = P
UnlessMemory NoMemory P = Unit {0}

-- the fault is the one that is found
abbrev pub Tells : DtsFault → Option DtsFault → Type 0
Tells fault found = UnlessMemory fault (found ≡ Some fault)

-- the fault is the first that a test of the places below n finds
pub record IsFirstOf (test : ℕ → Option DtsFault) (n : ℕ) (fault : DtsFault) : Type 0 where
  pub place : ℕ
  pub first : First test n place fault

-- the fault is want of memory, or the first that a test of the places below n finds
abbrev pub Finds : (ℕ → Option DtsFault) → ℕ → DtsFault → Type 0
Finds test n fault = UnlessMemory fault (IsFirstOf test n fault)
