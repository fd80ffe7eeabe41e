use Rattle.clk_model.proofs.DelayLaws.{late_have_delays}
use Rattle.clk_model.proofs.EndCauseLaws.{ends_have_causes}
use Rattle.clk_model.proofs.JournalCauseLaws.{journals_have_causes}
use Rattle.clk_model.proofs.laws.causes.ends_have_causes.Goals as goal

pub returns-clause-ends : goal.returns-clause-ends
returns-clause-ends c = ends_have_causes

pub returns-clause-journals : goal.returns-clause-journals
returns-clause-journals c = journals_have_causes

pub returns-clause-delays : goal.returns-clause-delays
returns-clause-delays c = late_have_delays
