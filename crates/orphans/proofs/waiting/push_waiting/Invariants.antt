-- Those so far that wait are there, and those of the rest make them whole.
use Rattle.std.proofs.Common.{◌≡◌, ℕ, ◌+◌, ◌<◌, ◌≤◌, ◌++◌, List, Some, true, length, drop, map}
use Rattle.std.specs.Prelude.{slice_get, filter, All, IfSome}
use Rattle.std.specs.Option.{option_map}
use Rattle.reg_bank.specs.Registers.{Registers}
use Rattle.clk_model.specs.State.{registered}
use Rattle.orphans.specs.Beside.{waits_beside, StandTogether}
use Rattle.orphans.proofs.waiting.push_waiting.Given as goal

abbrev pub invariant-loop-count : goal.invariant-loop-count
invariant-loop-count g l = record {
  at_inside : IfSome l.at (λ c. c.0 < length l.tree.defs);
  inside : All (λ c. c.0 < length l.tree.defs) l.waiting.items;
  there : (cs : List ℕ) (k : ℕ) → StandTogether l.tree cs → option_map (λ c. c.0) l.fn.first ≡ slice_get cs k → All (λ c. registered l.tree.clocks c.0 ≡ true) l.fn.waiting.items
      → All (λ c. registered l.tree.clocks c.0 ≡ true) l.waiting.items;
  along : (cs : List ℕ) (k : ℕ) → StandTogether l.tree cs → option_map (λ c. c.0) l.fn.first ≡ slice_get cs k → option_map (λ c. c.0) l.at ≡ slice_get cs (k + l.count);
  few : (cs : List ℕ) (k : ℕ) → StandTogether l.tree cs → option_map (λ c. c.0) l.fn.first ≡ slice_get cs k → k ≤ length cs → k + l.count ≤ length cs;
  pushed : (regs : Registers) (cs : List ℕ) (k : ℕ) → g.B.Bank.contents l.bank ≡ Some regs → StandTogether l.tree cs → option_map (λ c. c.0) l.fn.first ≡ slice_get cs k
      → map (λ c. c.0) l.waiting.items ++ filter (waits_beside l.tree regs l.new.0) (drop (k + l.count) cs)
      ≡ map (λ c. c.0) l.fn.waiting.items ++ filter (waits_beside l.tree regs l.new.0) (drop k cs);
}
