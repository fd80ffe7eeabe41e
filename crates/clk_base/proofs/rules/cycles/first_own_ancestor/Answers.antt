-- A clock from which lines of possible parents end isn't among its own possible ancestors.
use Rattle.std.proofs.Common.{◌≡◌, true, sym, ◌∙◌, below_more, length, arith}
use Rattle.std.proofs.lemmas.Bool.{not_from_false}
use Rattle.clk_base.specs.Description.{parents_of}
use Rattle.clk_base.specs.Levels.{depth}
use Rattle.clk_base.specs.Valid.{keeps_acyclic}
use Rattle.clk_base.proofs.Lines.{not_own_ancestor}
use Rattle.clk_base.proofs.rules.cycles.first_own_ancestor.Goals as goal

pub loop-i-preserved-then-ended : goal.loop-i-preserved-then-ended
loop-i-preserved-then-ended c =
    let up = parents_of c.args.defs.now in
    below_more (λ k. keeps_acyclic 0 c.args.defs.now k ≡ true) c.loop-i.i c.loop-i.invariant
    (not_from_false _ (not_own_ancestor up depth c.loop-i.i (length c.args.defs.now) (sym (c.requires.ends.told c.loop-i.i (omega (arith, c.loop-i-test.true, c.requires.ends.each))) ∙ c.if-ended.true)))
