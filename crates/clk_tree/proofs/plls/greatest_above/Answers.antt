-- Nothing is left.
use Rattle.std.proofs.Common.{◌∙◌, ap, sym, max, map, List, arith}
use Rattle.std.specs.Prelude.{fold, slice_index}
use Rattle.clk_base.specs.declared.clock.ClockId.{ClockId}
use Rattle.kind_math.specs.Choices.{greatest_of}
use Rattle.clk_tree.proofs.Along.{none_left}
use Rattle.clk_tree.proofs.plls.greatest_above.Goals as goal

pub returns-clause-greatest : goal.returns-clause-greatest
unfolding greatest_of
returns-clause-greatest c =
    sym (c.loop-p.invariant.left ∙ ap (λ (ps : List ClockId). fold max c.loop-p.most (map (λ p. slice_index c.args.above.now p.0) ps))
    (none_left c.args.parents.now c.loop-p.p-index (let over = c.loop-p-test.false in omega arith)))
