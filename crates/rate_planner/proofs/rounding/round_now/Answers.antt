-- The description is the tree's own.
use Rattle.rate_planner.proofs.rounding.round_now.Goals as goal

pub returns-clause-rate : goal.returns-clause-rate
returns-clause-rate g c = rw c.requires.made c.round_resting.ensures.rate

pub returns-clause-reads : goal.returns-clause-reads
returns-clause-reads g c = rw c.requires.made c.round_resting.ensures.reads
