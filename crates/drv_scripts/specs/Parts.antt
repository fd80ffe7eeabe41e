-- What the readers of the sections behind the bank's keep.
use Rattle.std.specs.Prelude.{◌≡◌, ℕ, List, [], ◌∷◌, ◌++◌, length, map}
use Rattle.std.specs.List.{flat_map}
use Rattle.bundle_sections.specs.Sections.{SaidSection}
use Rattle.clk_base.specs.Checked.{Checked}
use Rattle.dts_clocks.specs.Assigned.{SeenAssigned}
use Rattle.drv_scripts.specs.declared.bundle.Bundle.{Bundle}
use Rattle.drv_scripts.specs.declared.bundle.LateLine.{LateLine}
use Rattle.drv_scripts.specs.declared.bundle.LockLine.{LockLine}
use Rattle.drv_scripts.specs.declared.bundle.Script.{Script}
use Rattle.drv_scripts.specs.declared.part.Others.{Others}
use Rattle.drv_scripts.specs.declared.part.Part.{Part}
use Rattle.drv_scripts.specs.declared.part.Part.TheVariants as parts
use Rattle.drv_scripts.specs.Sections.{Around, scripts_in, locks_in, late_in, turns_in}
use Rattle.drv_scripts.specs.Spelled.{probes_without, assigned_commands}

-- the locks of what was read of a section
abbrev pub part_locks : Part → List LockLine
part_locks (parts.Locks locks) = locks.items
part_locks _ = []

-- its late clocks
abbrev pub part_late : Part → List LateLine
part_late (parts.Late late) = late.items
part_late _ = []

-- its driver
abbrev pub part_drivers : Part → List Script
part_drivers (parts.Driver script) = script ∷ []
part_drivers _ = []

-- its turns
abbrev pub part_order : Part → List ℕ
part_order (parts.Turns drivers) = drivers.items
part_order _ = []

-- what was read of a section is what it says
pub record IsPart (a : Around) (s : SaidSection) (part : Part) : Type 0 where
  pub locks : part_locks part ≡ locks_in a s
  pub late : part_late part ≡ late_in a s
  pub drivers : part_drivers part ≡ scripts_in a s
  pub order : part_order part ≡ turns_in a s

-- nothing was read
pub record IsEmpty (others : Others) : Type 0 where
  pub locks : others.locks.items ≡ []
  pub late : others.late.items ≡ []
  pub drivers : others.drivers.items ≡ []
  pub order : others.order.items ≡ []

-- what was read of a section is added behind what was read before
pub record Adds (old : Others) (part : Part) (new : Others) : Type 0 where
  pub locks : new.locks.items ≡ old.locks.items ++ part_locks part
  pub late : new.late.items ≡ old.late.items ++ part_late part
  pub drivers : new.drivers.items ≡ old.drivers.items ++ part_drivers part
  pub order : new.order.items ≡ old.order.items ++ part_order part

-- what was read, with what is said of the sections that are left, is what all sections say
pub record AreRead (a : Around) (all rest : List SaidSection) (others : Others) : Type 0 where
  pub locks : others.locks.items ++ flat_map (locks_in a) rest ≡ flat_map (locks_in a) all
  pub late : others.late.items ++ flat_map (late_in a) rest ≡ flat_map (late_in a) all
  pub drivers : others.drivers.items ++ flat_map (scripts_in a) rest ≡ flat_map (scripts_in a) all
  pub order : others.order.items ++ flat_map (turns_in a) rest ≡ flat_map (turns_in a) all

-- what was read is what these sections say
pub record AreOthers (a : Around) (all : List SaidSection) (others : Others) : Type 0 where
  pub locks : others.locks.items ≡ flat_map (locks_in a) all
  pub late : others.late.items ≡ flat_map (late_in a) all
  pub drivers : others.drivers.items ≡ flat_map (scripts_in a) all
  pub order : others.order.items ≡ flat_map (turns_in a) all

-- a bundle of these clocks, of what nodes assign, of these words and of what the sections behind the bank's say
abbrev pub made : Checked → List ℕ → List SeenAssigned → List ℕ → Others → Bundle
made desc lines assigned words others = record {
  desc = desc;
  clock_lines = lines;
  assigned_lines = map (λ a. a.line) assigned;
  words = words;
  locks = others.locks.items;
  late = others.late.items;
  boot = probes_without others.late.items (length desc.defs) ++ assigned_commands assigned;
  drivers = others.drivers.items;
  order = others.order.items;
}
