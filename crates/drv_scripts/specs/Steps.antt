-- What the steps of the readers promise.
use Rattle.std.specs.Prelude.{◌≡◌, ℕ, ◌+◌, ◌^◌, ◌<◌, ◌≤◌, Bool, false, List, [], ◌∷◌, length, Option, Some, Result, Ok, Err}
use Rattle.std.specs.Option.{option_to_list}
use Rattle.bundle_sections.specs.Sections.{SaidSection}
use Rattle.bundle_sections.specs.Verdict.{Tiles}
use Rattle.bundle_text.specs.Firsts.{First}
use Rattle.bundle_text.specs.declared.fault.BundleFault.{BundleFault}
use Rattle.bundle_text.specs.declared.fault.BundleFault.TheVariants as faults
use Rattle.bundle_text.specs.declared.reason.Reason.{Reason}
use Rattle.clk_base.specs.declared.command.Command.{Command}
use Rattle.clk_base.specs.Description.{Description}
use Rattle.dts_clocks.specs.Consumers.{SeenName}
use Rattle.drv_scripts.specs.declared.stop.Stop.{Stop}
use Rattle.drv_scripts.specs.declared.stop.Stop.TheVariants.{At, NoMemory}
use Rattle.drv_scripts.specs.CommandLines.{CommandLine}
use Rattle.drv_scripts.specs.Judged.{KeepsBetween}
use Rattle.drv_scripts.specs.Sections.{Around, fault_among}
use Rattle.drv_scripts.specs.Commands.{after_command, known_command, known_fault, said_before, variables_before, command_at}

-- the command that a line at a place says behind these variables, which are these after it; or why it is none
abbrev pub TakesCommand : Description → Option (List SeenName) → List (List ℕ) → Bool → ℕ → CommandLine → List (List ℕ) → Result Command Stop → Type 0
TakesCommand defs names vars full k said after (Ok command) =
    (known_command defs names vars (k + 1) said ≡ Some command) × (full ≡ false) × (after ≡ after_command vars said)
TakesCommand defs names vars full k said after (Err (At place reason)) =
    (place ≡ k) × (known_fault full (known_command defs names vars (k + 1) said) ≡ Some reason)
TakesCommand defs names vars full k said after (Err NoMemory) = Unit {0}

-- the command of the line at a place was read behind so many, with the variables after it
pub record TakesLine (defs : Description) (names : Option (List SeenName)) (ls : List (List ℕ)) (first k own : ℕ) (vars : List (List ℕ)) (found : Option Command) : Type 0 where
  pub command : found ≡ command_at defs names ls first k
  pub variables : vars ≡ variables_before ls first (k + 1)
  pub count : length (said_before ls first (k + 1)) ≡ own + length (option_to_list found)
  pub few : length vars ≤ own + length (option_to_list found)

-- where sections begin that reach up to a place
abbrev pub begins : ℕ → List SaidSection → ℕ
begins end [] = end
begins end (s ∷ more) = s.place

-- of all these sections that reach up to a place, these are left, and so many commands stand before them
pub record IsLeft (a : Around) (all : List SaidSection) (end before : ℕ) (rest : List SaidSection) : Type 0 where
  pub low : begins end all ≤ begins end rest
  pub tiles : Tiles (begins end rest) rest end
  pub kept : KeepsBetween (fault_among a 0 all) (begins end all) (begins end rest)
  pub same : (k : ℕ) → begins end rest ≤ k → fault_among a 0 all k ≡ fault_among a before rest k

-- no line has a fault, and what was read is right; or this is the first with one
abbrev pub StopsFirst : (ℕ → Option Reason) → ℕ → Stop → Type 0
StopsFirst test n (At place reason) = First test n place reason
StopsFirst test n NoMemory = Unit {0}

-- the place of a stop is that of a line whose number fits
abbrev pub IsPlaced : Stop → Type 0
IsPlaced (At place reason) = place + 1 < 2 ^ 32
IsPlaced NoMemory = Unit {0}

-- what a stop tells
abbrev pub stop_told : Stop → BundleFault
stop_told (At place reason) = faults.Refused (place + 1) reason
stop_told NoMemory = faults.NoMemory
