-- Which lines spell which clocks in a bundle of a version, and why other lines spell none. A section begins at the place `from` of a text.
use Rattle.std.specs.Prelude.{◌≡◌, ℕ, ◌+◌, ◌⊎◌, List, length}
use Rattle.bundle_text.specs.Faults.{Tells}
use Rattle.bundle_text.specs.Firsts.{First, KeepsBelow}
use Rattle.clk_base.specs.Description.{Description}
use Rattle.bundle_text.specs.declared.reason.Reason.{Reason}
use Rattle.bundle_text.specs.declared.fault.BundleFault.{BundleFault}
use Rattle.clock_lines.specs.Section.{fault_at, parent_fault_at, desc_of, lines_of}

-- the lines spell this description: none has a fault, each parent is found, and the clocks stand on these lines
pub record Spells (version from : ℕ) (section : List (List ℕ)) (desc : Description) (lines : List ℕ) : Type 0 where
  pub kept : KeepsBelow (fault_at version section) (length section)
  pub found : KeepsBelow (parent_fault_at section) (length section)
  pub desc_is : desc ≡ desc_of section
  pub lines_are : lines ≡ lines_of from section

-- this line is the first with a fault; lines count from 1
pub record HasFault (version from : ℕ) (section : List (List ℕ)) (line : ℕ) (reason : Reason) : Type 0 where
  pub place : ℕ
  pub first : First (fault_at version section) (length section) place reason
  pub line_is : line ≡ from + place + 1

-- the fault tells the first line with one by itself
abbrev pub FirstFault : ℕ → ℕ → List (List ℕ) → BundleFault → Type 0
FirstFault version from section = Tells (HasFault version from section)

-- no line has a fault by itself, and this one is the first with a parent that no line names
pub record LacksParent (version from : ℕ) (section : List (List ℕ)) (line : ℕ) (reason : Reason) : Type 0 where
  pub kept : KeepsBelow (fault_at version section) (length section)
  pub place : ℕ
  pub first : First (parent_fault_at section) (length section) place reason
  pub line_is : line ≡ from + place + 1

-- the lines spell no description, for this reason at this line
abbrev pub Refuses : ℕ → ℕ → List (List ℕ) → ℕ → Reason → Type 0
Refuses version from section line reason = HasFault version from section line reason ⊎ LacksParent version from section line reason
