-- Which lines stand in which sections, and why others stand in none.
use Rattle.std.specs.Prelude.{◌≡◌, ℕ, ◌+◌, ◌<◌, ◌⊎◌, false, List, [], ◌∷◌, length, Option, Some}
use Rattle.bundle_text.specs.Firsts.{First, KeepsBelow}
use Rattle.bundle_text.specs.declared.reason.Reason.{Reason}
use Rattle.bundle_text.specs.declared.reason.Reason.TheVariants.{MissingSection}
use Rattle.bundle_sections.specs.Headers.{HasForm}
use Rattle.bundle_sections.specs.Said.{Parts, in_order}
use Rattle.bundle_sections.specs.Sections.{SaidSection, section_at, text_fault, fault_at, sections_of, has_needed}

-- every line is UTF-8
abbrev pub IsText : List (List ℕ) → Type 0
IsText ls = KeepsBelow (text_fault ls) (length ls)

-- no line is out of place; where there is no line at all, the empty first one is judged
abbrev pub IsPlaced : List (List ℕ) → Type 0
IsPlaced ls = KeepsBelow (fault_at ls) (length ls + 1)

-- lines without a fault stand in these sections
pub record Accepts (ls : List (List ℕ)) (parts : Parts) : Type 0 where
  pub text : IsText ls
  pub placed : IsPlaced ls
  pub sections : sections_of ls ≡ in_order parts

-- this line is the first with a fault, and this is the fault; lines count from 1
pub record Faults (test : ℕ → Option Reason) (n line : ℕ) (reason : Reason) : Type 0 where
  pub place : ℕ
  pub first : First test n place reason
  pub line_is : line ≡ place + 1

-- all lines are UTF-8, and one is out of place
pub record IsMisplaced (ls : List (List ℕ)) (line : ℕ) (reason : Reason) : Type 0 where
  pub text : IsText ls
  pub fault : Faults (fault_at ls) (length ls + 1) line reason

-- no line has a fault, and a section that must be there isn't; this is told of the end
pub record IsUnfinished (ls : List (List ℕ)) (end line : ℕ) (reason : Reason) : Type 0 where
  pub text : IsText ls
  pub placed : IsPlaced ls
  pub missing : has_needed (sections_of ls) ≡ false
  pub line_is : line ≡ end
  pub reason_is : reason ≡ MissingSection

-- lines are refused at this line for this reason: first as text, then by their places, then for a missing section
abbrev pub Refuses : List (List ℕ) → ℕ → ℕ → Reason → Type 0
Refuses ls end line reason = Faults (text_fault ls) (length ls) line reason ⊎ (IsMisplaced ls line reason ⊎ IsUnfinished ls end line reason)

-- each section begins where the one before it ends, from one place to another
abbrev pub Tiles : ℕ → List SaidSection → ℕ → Type 0
Tiles from [] to = from ≡ to
Tiles from (s ∷ more) to = (s.place ≡ from) × (s.place < s.end) × Tiles s.end more to

-- the section is the one that begins at its place, and its header has its form
pub record IsSection (ls : List (List ℕ)) (s : SaidSection) : Type 0 where
  pub begins : section_at ls s.place ≡ Some s
  pub form : HasForm s.says
