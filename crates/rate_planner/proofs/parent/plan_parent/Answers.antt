-- The description is the tree's own.
use Rattle.clk_tree.proofs.Reading.{valid_in}
use Rattle.rate_planner.proofs.parent.plan_parent.Goals as goal

pub plan_move-requires-clause-valid : goal.plan_move-requires-clause-valid
plan_move-requires-clause-valid g c =
    rw c.requires.made at (valid_in c.args.desc.now.words (g.B.Bank.size c.args.bank.now) c.args.desc.now.defs c.len-size.ensures.valid c.requires.bank)

pub plan_move-requires-clause-possible : goal.plan_move-requires-clause-possible
plan_move-requires-clause-possible g c = rw c.requires.made at c.requires.possible

pub returns-clause-chain : goal.returns-clause-chain
returns-clause-chain g c = rw c.requires.made c.plan_move.ensures.chain

pub returns-clause-rates : goal.returns-clause-rates
returns-clause-rates g c = rw c.requires.made c.plan_move.ensures.rates
