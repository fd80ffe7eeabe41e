-- So many children are done.
use Rattle.std.proofs.Common.{◌<◌, ◌-◌, length}
use Rattle.clk_tree.proofs.Flagging.{Flagging}
use Rattle.clk_tree.proofs.rooting.+set_below.Given as goal

abbrev pub decreases-set_below : goal.decreases-set_below
decreases-set_below l = l.levels

abbrev pub invariant-loop-step : goal.invariant-loop-step
invariant-loop-step l = record {
  inside : l.at < length l.siblings;
  done : Flagging l.count l.siblings l.fn.flags l.flags (l.levels - 1) l.fn.clock.0 l.fn.flag l.at l._step;
}
