use Rattle.std.proofs.Common.{◌≡◌, ◌≤◌, ◌-◌, length}
use Rattle.bundle_text.specs.Words.{texts}
use Rattle.drv_scripts.specs.Judged.{KeepsBetween}
use Rattle.drv_scripts.specs.ListLines.{turns_of, order_fault}
use Rattle.drv_scripts.proofs.order_section.read_order.Given as goal

-- the lines so far have no fault, and these are their turns
abbrev pub invariant-loop-at : goal.invariant-loop-at
invariant-loop-at l = record {
  kept : KeepsBetween (order_fault (texts l.drivers) l.lines l.from) l.from l.at;
  read : l.turns.items ≡ turns_of (texts l.drivers) l.lines l.from (l.at - l.from);
  few : length l.turns.items ≤ 1048576;
}
