-- What was added with what is left makes the whole.
use Rattle.std.proofs.Common.{◌≡◌, ◌++◌, drop}
use Rattle.clk_tree.specs.Plans.{rates_of}
use Rattle.core_parts.specs.Told.{told_clocks}
use Rattle.core_parts.specs.Course.{notifiers_at}
use Rattle.core_parts.proofs.scripted.told_clocks.Given as goal

abbrev pub invariant-loop-place : goal.invariant-loop-place
invariant-loop-place l = l.told.items ++ told_clocks (notifiers_at l.notifiers) l.tree.rates (drop l.place (rates_of l.rates)) ≡ told_clocks (notifiers_at l.notifiers) l.tree.rates (rates_of l.rates)
