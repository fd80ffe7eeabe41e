-- The steps one by one.
use Rattle.clk_tree.specs.Plans.{chain_of}
use Rattle.rate_planner.specs.Outcomes.{rates_within}
use Rattle.rate_planner.proofs.ListSteps.{within_fails, within_passes}
use Rattle.rate_planner.proofs.outcome.keep_boundaries.Goals as goal

pub returns-then-not-is_between : goal.returns-then-not-is_between
returns-then-not-is_between g c =
    within_fails (g.V.View.means c.args.view.now) c.args.steps.now c.args.rates.now c.loop-place.place _ 0 c.is_between.result (rates_within (g.V.View.means c.args.view.now) (chain_of c.args.steps.now) c.args.rates.now)
    c.loop-place-test.true c.requires.sizes c.is_between.ensures c.if-not-is_between.true c.loop-place.invariant

pub loop-place-preserved : goal.loop-place-preserved
loop-place-preserved g c =
    within_passes (g.V.View.means c.args.view.now) c.args.steps.now c.args.rates.now c.loop-place.place _ 0 c.is_between.result (rates_within (g.V.View.means c.args.view.now) (chain_of c.args.steps.now) c.args.rates.now)
    c.loop-place-test.true c.requires.sizes c.is_between.ensures c.if-not-is_between.false c.loop-place.invariant
