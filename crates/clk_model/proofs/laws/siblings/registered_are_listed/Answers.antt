use Rattle.clk_model.proofs.SiblingLaws.{registers_are_listed, relinks_are_listed}
use Rattle.clk_model.proofs.laws.siblings.registered_are_listed.Goals as goal

pub returns : goal.returns
returns c = record { registers = registers_are_listed; relinks = relinks_are_listed }
