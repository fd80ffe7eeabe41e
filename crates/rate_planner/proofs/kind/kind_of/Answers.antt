-- The kind is that of the tree's own description.
use Rattle.rate_planner.proofs.kind.kind_of.Goals as goal

pub returns-clause-reads : goal.returns-clause-reads
returns-clause-reads c = λ words valid. c.kind_in.ensures.reads words (rw c.desc.ensures.defs valid)
