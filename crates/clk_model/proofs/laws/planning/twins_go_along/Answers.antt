use Rattle.clk_model.proofs.TwinLaws.{twins_stay, twins_step, twins_begin}
use Rattle.clk_model.proofs.laws.planning.twins_go_along.Goals as goal

pub returns-clause-beside : goal.returns-clause-beside
returns-clause-beside c = twins_stay

pub returns-clause-steps : goal.returns-clause-steps
returns-clause-steps c = twins_step

pub returns-clause-begins : goal.returns-clause-begins
returns-clause-begins c = twins_begin
