-- How far the levels reach, and which clocks were added.
use Rattle.std.proofs.Common.{◌≡◌, ◌+◌, ◌*◌, take}
use Rattle.std.specs.Prelude.{IfSome, true, filter, flat_map, option_map, slice_get}
use Rattle.clk_model.specs.Lists.{is_in}
use Rattle.clk_model.specs.State.{registered}
use Rattle.clk_model.specs.Tree.{children}
use Rattle.clk_model.specs.Walk.{below_within, kids_after, movers_to}
use Rattle.clk_tree.specs.Plans.{AreThere, chain_of}
use Rattle.rate_planner.specs.Walks.{Walks, stays}
use Rattle.rate_planner.proofs.walk.+walking.Given as goal

abbrev pub decreases-walk_below : goal.decreases-walk_below
decreases-walk_below g l = 3 * l.levels + 2

abbrev pub decreases-stay_below : goal.decreases-stay_below
decreases-stay_below g l = 3 * l.levels + 1

abbrev pub decreases-stay_one : goal.decreases-stay_one
decreases-stay_one g l = 3 * l.levels

abbrev pub decreases-move_below : goal.decreases-move_below
decreases-move_below g l = 3 * l.levels + 1

abbrev pub decreases-move_one : goal.decreases-move_one
decreases-move_one g l = 3 * l.levels

abbrev pub invariant-stay_below-loop-step : goal.invariant-stay_below-loop-step
invariant-stay_below-loop-step g l = record {
  at : option_map (λ c. c.0) l.at ≡ slice_get (children l.walker.tree.now.order l.walker.tree.now.clocks l.fn.clock.0) l._step;
  next : IfSome l.at (λ d. (is_in d.0 (children l.walker.tree.now.order l.walker.tree.now.clocks l.fn.clock.0) ≡ true) × (registered l.walker.tree.now.clocks d.0 ≡ true));
  walked : Walks (g.B.Bank.contents l.walker.bank.now) l.walker.tree.now.defs l.walker.tree.now (chain_of l.walker.steps.now) l.walker.rates.now l.fn.clock.0 l.rate l.fn.into l.into
      (flat_map (below_within (kids_after l.walker.tree.now.order l.walker.tree.now.clocks (chain_of l.walker.steps.now)) l.levels) (filter (stays l.walker.tree.now.clocks (chain_of l.walker.steps.now)) (take l._step (children l.walker.tree.now.order l.walker.tree.now.clocks l.fn.clock.0))));
  there : AreThere l.walker.tree.now.clocks l.fn.into → AreThere l.walker.tree.now.clocks l.into;
}

abbrev pub invariant-move_below-loop-place : goal.invariant-move_below-loop-place
invariant-move_below-loop-place g l = record {
  walked : Walks (g.B.Bank.contents l.walker.bank.now) l.walker.tree.now.defs l.walker.tree.now (chain_of l.walker.steps.now) l.walker.rates.now l.clock.0 l.rate l.fn.into l.into
      (flat_map (below_within (kids_after l.walker.tree.now.order l.walker.tree.now.clocks (chain_of l.walker.steps.now)) l.levels) (movers_to l.walker.tree.now.clocks (take l.place (chain_of l.walker.steps.now)) l.clock.0));
  there : AreThere l.walker.tree.now.clocks l.fn.into → AreThere l.walker.tree.now.clocks l.into;
}
