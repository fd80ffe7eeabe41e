use Rattle.clk_model.proofs.WalkLaws.{walks_list}
use Rattle.clk_model.proofs.laws.walks.walks_list.Goals as goal

pub returns : goal.returns
returns c = record { law = walks_list }
