-- The clock, then child by child all that is below it.
use Rattle.std.proofs.Common.{ℕ, ◌-◌, arith}
use Rattle.clk_tree.proofs.Flagging.{SetsBelow, kid_set, all_set}
use Rattle.clk_tree.proofs.KidRings.{no_kid_left}
use Rattle.clk_tree.proofs.rooting.+set_below.Goals as goal

pub loop-step-preserved : goal.loop-step-preserved
loop-step-preserved t c = record {
  inside = c.after-at-in-loop-step.ensures.inside;
  done = kid_set c.args.count c.args.siblings.now c.args.flags.now c.loop-step.flags c.set_below.new.flags (c.args.levels - 1) c.args.clock.0 c.args.flag
      c.loop-step.at c.after-at-in-loop-step.result c.loop-step._step c.if-at-count.false c.after-at-in-loop-step.ensures.next c.loop-step.invariant.done
      (record { below = c.set_below.ensures.below; others = c.set_below.ensures.others });
}

-- at an end all below the clock is done
at_end : (t : ℕ) (c : goal.Then-at-count t) → SetsBelow c.args.count c.args.siblings.now c.args.flags.now c.loop-step.flags c.args.levels c.args.clock.0 c.args.flag
at_end t c =
    let some = c.if-levels-eq0.false in
    all_set c.args.count c.args.siblings.now c.args.flags.now c.loop-step.flags c.args.levels (c.args.levels - 1) c.args.clock.0 c.args.flag c.loop-step.at c.loop-step._step (omega arith)
    (no_kid_left c.args.count c.args.siblings.now c.args.clock.0 c.loop-step.at c.loop-step._step c.if-at-count.true c.loop-step.invariant.done.comes) c.loop-step.invariant.done

pub returns-then-at-count-clause-below : goal.returns-then-at-count-clause-below
returns-then-at-count-clause-below t c = (at_end t c).below

-- and after as many steps as there are clocks
after_all : (t : ℕ) (c : goal.After-loop-step t) → SetsBelow c.args.count c.args.siblings.now c.args.flags.now c.loop-step.flags c.args.levels c.args.clock.0 c.args.flag
after_all t c =
    let some = c.if-levels-eq0.false in
    let over = c.loop-step-test.false in
    all_set c.args.count c.args.siblings.now c.args.flags.now c.loop-step.flags c.args.levels (c.args.levels - 1) c.args.clock.0 c.args.flag c.loop-step.at c.loop-step._step (omega arith)
    (λ kids are. let few = are.few c.args.clock.0 in omega arith) c.loop-step.invariant.done

pub returns-clause-below : goal.returns-clause-below
returns-clause-below t c = (after_all t c).below
