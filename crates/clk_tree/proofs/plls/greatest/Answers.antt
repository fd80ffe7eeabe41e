-- Nothing is left.
use Rattle.std.proofs.Common.{◌∙◌, ap, sym, max, List, ℕ, arith}
use Rattle.std.specs.Prelude.{fold}
use Rattle.kind_math.specs.Choices.{greatest_of}
use Rattle.clk_tree.proofs.Along.{none_left}
use Rattle.clk_tree.proofs.plls.greatest.Goals as goal

pub returns : goal.returns
unfolding greatest_of
returns c =
    sym (c.loop-number.invariant ∙ ap (λ (xs : List ℕ). fold max c.loop-number.most xs)
    (none_left c.args.numbers.now c.loop-number.number-index (let over = c.loop-number-test.false in omega arith)))
