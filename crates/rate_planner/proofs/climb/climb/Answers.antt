-- The chain so far and what is left of it.
use Rattle.std.proofs.Common.{◌-◌, Some, refl, ap, ◌∙◌, arith}
use Rattle.std.specs.Prelude.{List}
use Rattle.clk_model.specs.Chain.{chain_within}
use Rattle.clk_model.specs.State as state
use Rattle.rate_planner.specs.Kept.{wired}
use Rattle.rate_planner.proofs.ChainSteps.{climb_none, climb_last, climb_more, there_more}
use Rattle.rate_planner.proofs.climb.climb.Goals as goal

pub returns-in-NoPlan-clause-chain : goal.returns-in-NoPlan-clause-chain
returns-in-NoPlan-clause-chain g c = λ regs kept first.
    climb_none (wired c.args.tree.now.defs regs c.args.tree.now) (g.V.View.means c.args.view.now) (c.depth-level-end.result - c.loop-level._level) c.loop-level.at.0 c.loop-level.request c.loop-level.steps
    (chain_within c.depth-level-end.result (wired c.args.tree.now.defs regs c.args.tree.now) (g.V.View.means c.args.view.now) c.args.clock.0 c.args.x)
    (let more = c.loop-level-test.true in omega arith) (c.in-NoPlan.ensures.next regs kept (c.loop-level.invariant.rounding regs kept first)) (c.loop-level.invariant.left regs kept first)
    ∙ ap (λ n. chain_within n (wired c.args.tree.now.defs regs c.args.tree.now) (g.V.View.means c.args.view.now) c.args.clock.0 c.args.x) c.depth-level-end.ensures

pub returns-in-Last-clause-chain : goal.returns-in-Last-clause-chain
returns-in-Last-clause-chain g c = λ regs kept first.
    ap (λ (ks : List state.ChainStep). Some ks) c.in_ok-push-in-Last.ensures.pushed
    ∙ climb_last (wired c.args.tree.now.defs regs c.args.tree.now) (g.V.View.means c.args.view.now) (c.depth-level-end.result - c.loop-level._level) c.loop-level.at.0 c.loop-level.request c.loop-level.steps c.in-Last.step
    (chain_within c.depth-level-end.result (wired c.args.tree.now.defs regs c.args.tree.now) (g.V.View.means c.args.view.now) c.args.clock.0 c.args.x)
    (let more = c.loop-level-test.true in omega arith) (c.in-Last.ensures.next regs kept (c.loop-level.invariant.rounding regs kept first)) (c.loop-level.invariant.left regs kept first)
    ∙ ap (λ n. chain_within n (wired c.args.tree.now.defs regs c.args.tree.now) (g.V.View.means c.args.view.now) c.args.clock.0 c.args.x) c.depth-level-end.ensures

pub loop-level-preserved : goal.loop-level-preserved
loop-level-preserved g c = rw c.in_ok-push-in-More.ensures.pushed (record {
  at = c.in-More.ensures.there.1;
  there = there_more c.args.tree.now.clocks c.loop-level.steps _ c.in-More.step refl c.loop-level.invariant.there c.in-More.ensures.there.0;
  names = c.rounding-rounded.ensures.names;
  rounding = λ regs kept first. c.rounding-rounded.ensures.rounding regs kept;
  left = λ regs kept first.
      climb_more (wired c.args.tree.now.defs regs c.args.tree.now) (g.V.View.means c.args.view.now) c.depth-level-end.result c.loop-level._level c.loop-level.at.0 c.loop-level.request c.in-More.wanted
      c.loop-level.steps c.in-More.step c.in-More.parent
      (chain_within c.depth-level-end.result (wired c.args.tree.now.defs regs c.args.tree.now) (g.V.View.means c.args.view.now) c.args.clock.0 c.args.x)
      c.loop-level-test.true (c.in-More.ensures.next regs kept (c.loop-level.invariant.rounding regs kept first)) (c.loop-level.invariant.left regs kept first);
})
