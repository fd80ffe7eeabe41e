use Rattle.clk_model.proofs.SiblingLaws.{registers_attach, registers_unattached, relinks_attach}
use Rattle.clk_model.proofs.laws.siblings.attached_come_first.Goals as goal

pub returns : goal.returns
returns c = record { registers = registers_attach; unattached = registers_unattached; relinks = relinks_attach }
