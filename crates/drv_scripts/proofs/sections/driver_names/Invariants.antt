use Rattle.std.proofs.Common.{◌≡◌, ◌++◌, map, drop}
use Rattle.bundle_sections.specs.Said.{said_section}
use Rattle.bundle_text.specs.Words.{texts}
use Rattle.drv_scripts.specs.Sections.{driver_names}
use Rattle.drv_scripts.proofs.sections.driver_names.Given as goal

-- the names so far, and those of the sections that are left
abbrev pub invariant-loop-section : goal.invariant-loop-section
invariant-loop-section l =
    texts l.names.items ++ driver_names (map said_section (drop l.section-index l.sections)) ≡ driver_names (map said_section l.sections)
