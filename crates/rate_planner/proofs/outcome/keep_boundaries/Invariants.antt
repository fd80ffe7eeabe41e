-- The rates so far keep the boundaries.
use Rattle.std.proofs.Common.{◌≡◌, drop}
use Rattle.clk_tree.specs.Plans.{chain_of}
use Rattle.rate_planner.specs.Outcomes.{rates_within}
use Rattle.rate_planner.proofs.outcome.keep_boundaries.Given as goal

abbrev pub invariant-loop-place : goal.invariant-loop-place
invariant-loop-place g l = rates_within (g.V.View.means l.view) (drop l.place (chain_of l.steps)) (drop l.place l.rates) ≡ rates_within (g.V.View.means l.view) (chain_of l.steps) l.rates
