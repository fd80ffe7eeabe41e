use Rattle.clk_model.proofs.CallCauseLaws.{calls_have_causes, tier_has_causes}
use Rattle.clk_model.proofs.EndCauseLaws.{going_leaves_changes}
use Rattle.clk_model.proofs.laws.causes.calls_have_causes.Goals as goal

pub returns-clause-begins : goal.returns-clause-begins
returns-clause-begins c = calls_have_causes

pub returns-clause-tier : goal.returns-clause-tier
returns-clause-tier c = tier_has_causes

pub returns-clause-going : goal.returns-clause-going
returns-clause-going c = going_leaves_changes
