-- One step more from the top down.
use Rattle.std.proofs.Common.{ℕ, Option, None, refl, ap, ◌∙◌, length}
use Rattle.std.specs.Option.{option_map_or}
use Rattle.clk_base.specs.Description.{kind_of}
use Rattle.clk_model.specs.Rate.{rate_over}
use Rattle.rate_planner.proofs.ListSteps.{kid_taken, kid_passed, moves_before, moves_here, moves_past}
use Rattle.rate_planner.proofs.walk.kid_rate.Goals as goal
use Rattle.rate_planner.proofs.walk.kid_rate.Goals.{then-step-clock+then-away, then-step-clock+else-away, else-step-clock}

pub loop-done-preserved : goal.loop-done-preserved
loop-done-preserved g c = elim c.if-step-clock.branch [
  | then-step-clock+then-away w ↦ record {
    own = λ regs.
        kid_taken c.args.walker.now.tree.now.defs regs c.args.walker.now.steps.now c.args.walker.now.rates.now (length c.args.walker.now.steps.now) c.loop-done.done _ c.args.clock.0 c.args.parent _ 0 _
        c.loop-done-test.true refl refl c.requires.sizes w.if-step-clock.true (ap (λ (o : Option ℕ). option_map_or (λ r. r) o (rate_over (kind_of c.args.walker.now.tree.now.defs c.args.clock.0) regs c.args.parent)) w.own-is);
    away =
        moves_before c.args.walker.now.tree.now.clocks c.args.walker.now.steps.now (length c.args.walker.now.steps.now) c.loop-done.done _ c.args.clock.0 (record { clock = c.args.clock; rate = 0; parent = None }) c.loop-done.away c.if-step-clock.away
        c.loop-done-test.true refl refl w.if-away.true w.away-is c.loop-done.invariant.away;
  }
  | then-step-clock+else-away w ↦ record {
    own = λ regs.
        kid_taken c.args.walker.now.tree.now.defs regs c.args.walker.now.steps.now c.args.walker.now.rates.now (length c.args.walker.now.steps.now) c.loop-done.done _ c.args.clock.0 c.args.parent _ 0 _
        c.loop-done-test.true refl refl c.requires.sizes w.if-step-clock.true (ap (λ (o : Option ℕ). option_map_or (λ r. r) o (rate_over (kind_of c.args.walker.now.tree.now.defs c.args.clock.0) regs c.args.parent)) w.own-is);
    away =
        moves_here c.args.walker.now.tree.now.clocks c.args.walker.now.steps.now (length c.args.walker.now.steps.now) c.loop-done.done _ c.args.clock.0 _ c.loop-done.away c.if-step-clock.away
        c.loop-done-test.true refl refl w.if-step-clock.true w.if-away.false (w.away-is ∙ w.moves-away.ensures) c.loop-done.invariant.away;
  }
  | else-step-clock w ↦ record {
    own = λ regs.
        kid_passed c.args.walker.now.tree.now.defs regs c.args.walker.now.steps.now c.args.walker.now.rates.now (length c.args.walker.now.steps.now) c.loop-done.done _ c.args.clock.0 c.args.parent _ _ _
        c.loop-done-test.true refl refl c.requires.sizes w.if-step-clock.false (ap (λ (o : Option ℕ). option_map_or (λ r. r) o (rate_over (kind_of c.args.walker.now.tree.now.defs c.args.clock.0) regs c.args.parent)) w.own-is) (c.loop-done.invariant.own regs);
    away =
        moves_past c.args.walker.now.tree.now.clocks c.args.walker.now.steps.now (length c.args.walker.now.steps.now) c.loop-done.done _ c.args.clock.0 _ c.loop-done.away c.if-step-clock.away
        c.loop-done-test.true refl refl w.if-step-clock.false w.away-is c.loop-done.invariant.away;
  }
]
