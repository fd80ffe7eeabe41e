use Rattle.std.proofs.Common.{◌≡◌, ◌<◌, ℕ, false, length, get_or, take}
use Rattle.drv_scripts.specs.Spelled.{is_late}
use Rattle.drv_scripts.proofs.boot.late_marks.Given as goal

-- the late clocks of the lines so far are marked, and no others
abbrev pub invariant-loop-line : goal.invariant-loop-line
invariant-loop-line l = record {
  size : length l.marks.items ≡ l.clocks;
  marks : (c : ℕ) → c < l.clocks → get_or l.marks.items c false ≡ is_late (take l.line-index l.late) c;
}
