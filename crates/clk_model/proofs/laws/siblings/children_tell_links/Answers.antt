use Rattle.clk_model.proofs.SiblingLaws.{children_tell_links}
use Rattle.clk_model.proofs.laws.siblings.children_tell_links.Goals as goal

pub returns : goal.returns
returns c = record { law = children_tell_links }
