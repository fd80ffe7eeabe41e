use Rattle.std.proofs.Common.{◌-◌, length, map}
use Rattle.bundle_sections.specs.Reads.{AtHeader}
use Rattle.bundle_sections.specs.Said.{said_section}
use Rattle.bundle_sections.specs.Verdict.{Tiles}
use Rattle.bundle_sections.proofs.reading.read_headers.Given as goal

-- the sections so far are those before the next header, and each begins where the one before it ends
abbrev pub invariant-loop-at : goal.invariant-loop-at
invariant-loop-at l = record {
  here : AtHeader l.lines l.at (map said_section l.found.items);
  tiled : Tiles l.first (map said_section l.found.items) l.at;
}

abbrev pub decreases-loop-at : goal.decreases-loop-at
decreases-loop-at l = length l.lines - l.at
