use Rattle.clk_model.proofs.MovedLaws.{moved_are_fed}
use Rattle.clk_model.proofs.laws.plans.moved_are_fed.Goals as goal

pub returns : goal.returns
returns c = record { law = moved_are_fed }
