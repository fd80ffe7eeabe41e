use Rattle.clk_model.proofs.PlanLaws.{chains_lead}
use Rattle.clk_model.proofs.laws.plans.chains_lead.Goals as goal

pub returns : goal.returns
returns c = record { law = chains_lead }
