use Rattle.clk_model.proofs.PrepEndLaws.{steps_read_prep}
use Rattle.clk_model.proofs.PrepRunLaws.{runs_step_by_prep, runs_sweep_by_prep}
use Rattle.clk_model.proofs.PrepSweepLaws.{sweeps_read_prep}
use Rattle.clk_model.proofs.laws.planning.steps_read_prep.Goals as goal

pub returns-clause-calls : goal.returns-clause-calls
returns-clause-calls c = steps_read_prep

pub returns-clause-sweeps : goal.returns-clause-sweeps
returns-clause-sweeps c = sweeps_read_prep

pub returns-clause-runs : goal.returns-clause-runs
returns-clause-runs c = runs_step_by_prep

pub returns-clause-sweeping : goal.returns-clause-sweeping
returns-clause-sweeping c = runs_sweep_by_prep
