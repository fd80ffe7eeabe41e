use Rattle.clk_model.proofs.ShadowLaws.{shadows_stay, shadows_begin, shadows_step}
use Rattle.clk_model.proofs.laws.planning.shadows_go_along.Goals as goal

pub returns-clause-beside : goal.returns-clause-beside
returns-clause-beside c = shadows_stay

pub returns-clause-begins : goal.returns-clause-begins
returns-clause-begins c = shadows_begin

pub returns-clause-steps : goal.returns-clause-steps
returns-clause-steps c = shadows_step
