-- The sum of the clocks before the next one.
use Rattle.std.proofs.Common.{◌≡◌, ◌≤◌, ◌*◌, take, slice_index}
use Rattle.std.specs.List.{sum_by}
use Rattle.clk_base.specs.Tables.{too_much}
use Rattle.clk_base.proofs.rules.work.sum_of.Given as goal

abbrev pub invariant-loop-p : goal.invariant-loop-p
invariant-loop-p l = record {
  sum : l.sum ≡ sum_by (λ p. slice_index l.above p.0) (take l.p-index l.parents);
  small : l.sum ≤ l.p-index * too_much;
}
