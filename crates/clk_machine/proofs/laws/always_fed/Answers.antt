use Rattle.std.proofs.Common.{take}
use Rattle.clk_model.proofs.RunsFedLaws.{runs_are_fed}
use Rattle.clk_machine.proofs.laws.always_fed.Goals as goal

pub returns : goal.returns
returns c words defs ignore_unused credits journal valid n = runs_are_fed defs words ignore_unused credits (take n journal) valid
