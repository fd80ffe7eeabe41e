use Rattle.clk_model.proofs.RefusalLaws.{refused_keeps}
use Rattle.clk_model.proofs.laws.refusals.refusals_change_nothing.Goals as goal

pub returns : goal.returns
returns c = refused_keeps
