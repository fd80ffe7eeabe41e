-- Clock by clock.
use Rattle.clk_tree.specs.Plans.{chain_of}
use Rattle.change_walk.proofs.Telling.{visited_on}
use Rattle.change_walk.proofs.moves.visit_all.Goals as goal

pub loop-place-preserved : goal.loop-place-preserved
loop-place-preserved g c =
    visited_on c.args.tree.now.defs c.args.tree.now.clocks (g.V.View.means c.args.view.now).prepared (chain_of c.args.chain.now) c.args.rates.now c.loop-place.place c.rate_at.result
    c.loop-place.steps.items c.move_of.new.steps.items c.visit.new.steps.items _
    c.rate_at.ensures.at c.in_ok-move_of.ensures c.in_ok-visit.ensures c.loop-place.invariant
