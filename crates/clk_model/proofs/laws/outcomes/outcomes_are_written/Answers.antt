use Rattle.clk_model.proofs.OutcomeWrittenLaws.{outcomes_written, runs_write_outcomes}
use Rattle.clk_model.proofs.laws.outcomes.outcomes_are_written.Goals as goal

pub returns-clause-changes : goal.returns-clause-changes
returns-clause-changes c = outcomes_written

pub returns-clause-runs : goal.returns-clause-runs
returns-clause-runs c = runs_write_outcomes
