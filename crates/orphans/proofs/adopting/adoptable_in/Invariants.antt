-- Those so far stand in the order of their adoption, and those left in that of the rest.
use Rattle.std.proofs.Common.{◌≡◌, ◌+◌, ◌<◌, ◌++◌, Some, true, length, map}
use Rattle.std.specs.Prelude.{All}
use Rattle.reg_bank.specs.Registers.{Registers}
use Rattle.clk_model.specs.State.{State, registered}
use Rattle.clk_model.specs.Script.{adoption_order}
use Rattle.clk_model.specs.Begin.{register}
use Rattle.orphans.specs.Beside.{AreMarked}
use Rattle.orphans.proofs.adopting.adoptable_in.Given as goal

abbrev pub invariant-loop-turn : goal.invariant-loop-turn
invariant-loop-turn g l = record {
  few : l.turn + length l.left.items ≡ length l.initial.left.items;
  inside : All (λ c. c.0 < length l.tree.defs) l.left.items;
  there : All (λ c. registered l.tree.clocks c.0 ≡ true) l.left.items;
  ordered : All (λ c. registered l.tree.clocks c.0 ≡ true) l.order.items;
  marked : (regs : Registers) → g.B.Bank.contents l.bank ≡ Some regs → AreMarked (length l.tree.defs) l.marks.items (map (λ c. c.0) l.left.items);
  adopted : (s : State) → s.defs ≡ l.tree.defs → s.clocks ≡ l.tree.clocks → s.order ≡ l.tree.order → g.B.Bank.contents l.bank ≡ Some s.regs
      → map (λ c. c.0) l.order.items ++ adoption_order (length l.left.items) (register s l.new.0) (map (λ c. c.0) l.left.items)
      ≡ adoption_order (length l.initial.left.items) (register s l.new.0) (map (λ c. c.0) l.initial.left.items);
}
