-- So many steps lead to the number that comes after as many clocks.
use Rattle.std.proofs.Common.{ℕ, ◌<◌, ◌≤◌, List, drop, length}
use Rattle.clk_tree.specs.Rings.{Leads}
use Rattle.clk_tree.proofs.Along.{AreBelow, ComesAt}
use Rattle.clk_tree.proofs.group.nth_behind.Given as goal

abbrev pub invariant-loop-step : goal.invariant-loop-step
invariant-loop-step l = record {
  inside : l.at < length l.siblings;
  comes : (xs : List ℕ) → AreBelow l.count xs → l.count ≤ l.end → Leads l.siblings l.end l.end xs → (l.step ≤ length xs) × ComesAt l.siblings l.end l.at (drop l.step xs);
}
