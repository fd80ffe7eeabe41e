use Rattle.clk_model.proofs.GatesFollowLaws.{settled_follows_gates}
use Rattle.clk_model.proofs.laws.feeding.settled_follows_gates.Goals as goal

pub returns : goal.returns
returns c = record { law = settled_follows_gates }
