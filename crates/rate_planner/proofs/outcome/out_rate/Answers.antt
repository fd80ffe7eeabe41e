-- A kind of a description that is valid for the bank can be read from it.
use Rattle.rate_planner.proofs.outcome.out_rate.Goals as goal

pub rate_by-requires : goal.rate_by-requires
rate_by-requires g c = c.kind_of-kind.ensures.reads (g.B.Bank.size c.args.bank.now) c.requires.valid

pub set_rate-requires-clause-reads : goal.set_rate-requires-clause-reads
set_rate-requires-clause-reads g c = c.kind_of-kind.ensures.reads (g.B.Bank.size c.args.bank.now) c.requires.valid
