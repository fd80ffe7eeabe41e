-- The rates of the upper clocks are those that come out.
use Rattle.std.proofs.Common.{◌≡◌, ◌-◌, drop, length}
use Rattle.clk_tree.specs.Plans.{chain_of}
use Rattle.rate_planner.specs.Kept.{Told}
use Rattle.rate_planner.specs.Outcomes.{out_rates}
use Rattle.rate_planner.proofs.outcome.outcome_rates.Given as goal

abbrev pub invariant-loop-done : goal.invariant-loop-done
invariant-loop-done g l = record {
  size : length l.rates.items ≡ length l.steps;
  rates : Told (g.B.Bank.contents l.bank) l.tree.defs l.tree (λ w. drop (l.count - l.done) l.rates.items ≡ out_rates w (drop (l.count - l.done) (chain_of l.steps)));
}
