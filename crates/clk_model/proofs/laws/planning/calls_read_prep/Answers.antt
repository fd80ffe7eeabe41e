use Rattle.clk_model.proofs.PrepEventLaws.{begins_read_prep, bare_begins_read_prep, events_read_prep, sweeps_begin_by_prep}
use Rattle.clk_model.proofs.laws.planning.calls_read_prep.Goals as goal

pub returns-clause-begins : goal.returns-clause-begins
returns-clause-begins c = begins_read_prep

pub returns-clause-bare : goal.returns-clause-bare
returns-clause-bare c = bare_begins_read_prep

pub returns-clause-events : goal.returns-clause-events
returns-clause-events c = events_read_prep

pub returns-clause-sweep : goal.returns-clause-sweep
returns-clause-sweep c = sweeps_begin_by_prep
