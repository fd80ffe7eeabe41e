use Rattle.std.proofs.Common.{◌≡◌, ◌-◌}
use Rattle.drv_scripts.specs.Judged.{KeepsBetween}
use Rattle.drv_scripts.specs.ListLines.{late_fault, late_of}
use Rattle.drv_scripts.proofs.late_section.read_late_clocks.Given as goal

-- the lines so far have no fault, and this is what they state
abbrev pub invariant-loop-at : goal.invariant-loop-at
invariant-loop-at l = record {
  kept : KeepsBetween (late_fault l.desc.defs l.lines) l.from l.at;
  read : l.late.items ≡ late_of l.desc.defs l.lines l.from (l.at - l.from);
}
