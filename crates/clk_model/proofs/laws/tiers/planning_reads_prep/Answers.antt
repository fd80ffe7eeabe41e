use Rattle.clk_model.proofs.CopyLaws.{copies_serve}
use Rattle.clk_model.proofs.PlansReadLaws.{answers_read_prep, plans_read_prep, planning_reads_prep}
use Rattle.clk_model.proofs.laws.tiers.planning_reads_prep.Goals as goal

-- src/laws/tiers.rt
pub returns-clause-answers : goal.returns-clause-answers
returns-clause-answers c = answers_read_prep

pub returns-clause-plans : goal.returns-clause-plans
returns-clause-plans c = plans_read_prep

pub returns-clause-copies : goal.returns-clause-copies
returns-clause-copies c = copies_serve

pub returns-clause-runs : goal.returns-clause-runs
returns-clause-runs c = planning_reads_prep
