use Rattle.clk_model.proofs.PrepToldLaws.{prep_tells}
use Rattle.clk_model.proofs.laws.tiers.prep_tells.Goals as goal

pub returns : goal.returns
returns c = record { law = prep_tells }
