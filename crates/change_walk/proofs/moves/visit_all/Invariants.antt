-- What was added with what is left makes the whole.
use Rattle.std.proofs.Common.{◌≡◌, ◌++◌, drop}
use Rattle.clk_tree.specs.Plans.{chain_of, rates_of}
use Rattle.change_walk.specs.Steps.{visits}
use Rattle.change_walk.proofs.moves.visit_all.Given as goal

abbrev pub invariant-loop-place : goal.invariant-loop-place
invariant-loop-place g l =
    l.steps.items ++ visits l.tree.defs l.tree.clocks (g.V.View.means l.view).prepared (chain_of l.chain) (drop l.place (rates_of l.rates))
    ≡ l.fn.steps.items ++ visits l.tree.defs l.tree.clocks (g.V.View.means l.view).prepared (chain_of l.chain) (rates_of l.rates)
