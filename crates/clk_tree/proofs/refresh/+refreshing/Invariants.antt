-- How far the levels reach, and that so many children are done.
use Rattle.std.proofs.Common.{◌<◌, ◌+◌, ◌*◌, length}
use Rattle.clk_tree.proofs.Refreshing.{Refreshing}
use Rattle.clk_tree.proofs.refresh.+refreshing.Given as goal

abbrev pub decreases-refresh_kid : goal.decreases-refresh_kid
decreases-refresh_kid g l = 2 * l.levels

abbrev pub decreases-refresh_kids : goal.decreases-refresh_kids
decreases-refresh_kids g l = 2 * l.levels + 1

abbrev pub invariant-refresh_kids-loop-step : goal.invariant-refresh_kids-loop-step
invariant-refresh_kids-loop-step g l = record {
  inside : l.at < length l.siblings;
  done : Refreshing l.desc.defs (g.B.Bank.contents l.bank) l.siblings l.fn.rates l.rates l.levels l.fn.clock.0 l.rate l.at l._step;
}
