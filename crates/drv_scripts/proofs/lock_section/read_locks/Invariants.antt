use Rattle.std.proofs.Common.{◌≡◌, ◌-◌}
use Rattle.drv_scripts.specs.Judged.{KeepsBetween}
use Rattle.drv_scripts.specs.ListLines.{lock_fault, locks_of}
use Rattle.drv_scripts.proofs.lock_section.read_locks.Given as goal

-- the lines so far have no fault, and this is what they state
abbrev pub invariant-loop-at : goal.invariant-loop-at
invariant-loop-at l = record {
  kept : KeepsBetween (lock_fault l.desc.defs l.lines) l.from l.at;
  read : l.locks.items ≡ locks_of l.desc.defs l.lines l.from (l.at - l.from);
}
