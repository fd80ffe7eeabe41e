use Rattle.clk_model.proofs.SettingLaws.{outcomes_keep}
use Rattle.clk_model.proofs.laws.plans.outcomes_keep.Goals as goal

pub returns : goal.returns
returns c = record { law = outcomes_keep }
