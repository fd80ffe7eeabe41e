-- The description is the tree's own.
use Rattle.clk_tree.proofs.Reading.{valid_in}
use Rattle.rate_planner.proofs.request.plan_now.Goals as goal

pub plan_resting-requires-clause-valid : goal.plan_resting-requires-clause-valid
plan_resting-requires-clause-valid g c =
    rw c.requires.made at (valid_in c.args.desc.now.words (g.B.Bank.size c.args.bank.now) c.args.desc.now.defs c.len-size.ensures.valid c.requires.bank)

pub returns-clause-chain : goal.returns-clause-chain
returns-clause-chain g c = rw c.requires.made c.plan_resting.ensures.chain

pub returns-clause-rates : goal.returns-clause-rates
returns-clause-rates g c = rw c.requires.made c.plan_resting.ensures.rates

pub returns-clause-gates : goal.returns-clause-gates
returns-clause-gates g c = rw c.requires.made c.plan_resting.ensures.gates

pub returns-clause-rates_but_gates : goal.returns-clause-rates_but_gates
returns-clause-rates_but_gates g c = rw c.requires.made c.plan_resting.ensures.rates_but_gates
