-- None so far was free.
use Rattle.std.proofs.Common.{◌≡◌, Some, drop, map}
use Rattle.std.specs.Prelude.{find}
use Rattle.reg_bank.specs.Registers.{Registers}
use Rattle.orphans.specs.Beside.{is_free, rows_with}
use Rattle.orphans.proofs.waiting.first_free.Given as goal

abbrev pub invariant-loop-place : goal.invariant-loop-place
invariant-loop-place g l = (regs : Registers) → g.B.Bank.contents l.bank ≡ Some regs
    → find (is_free l.tree.defs regs (rows_with l.tree regs l.new.0) l.marks) (map (λ c. c.0) l.waiting)
    ≡ find (is_free l.tree.defs regs (rows_with l.tree regs l.new.0) l.marks) (drop l.place (map (λ c. c.0) l.waiting))
