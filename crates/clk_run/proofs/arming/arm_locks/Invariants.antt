use Rattle.std.proofs.Common.{◌≡◌, ℕ, drop}
use Rattle.clk_run.specs.Arming.{armed_by}
use Rattle.clk_run.proofs.arming.arm_locks.Given as goal

-- the locks of the lines so far are armed, and those of the lines that are left will be
abbrev pub invariant-loop-line : goal.invariant-loop-line
invariant-loop-line g l = record {
  size : g.B.Bank.size l.bank ≡ g.B.Bank.size l.fn.bank;
  words : g.B.Bank.contents l.bank ≡ g.B.Bank.contents l.fn.bank;
  locks : (p : ℕ) → armed_by (drop l.line-index l.locks) p (g.B.Bank.lock l.bank p) ≡ armed_by l.locks p (g.B.Bank.lock l.fn.bank p);
}
