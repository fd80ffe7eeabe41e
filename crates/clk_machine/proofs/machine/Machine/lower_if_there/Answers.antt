use Rattle.std.proofs.Common.{◌∙◌, sym}
use Rattle.clk_machine.proofs.SweptAlong.{lowered_never}
use Rattle.clk_machine.proofs.machine.Machine.lower_if_there.Goals as goal

pub returns-else-is_registered-clause-along : goal.returns-else-is_registered-clause-along
returns-else-is_registered-clause-along g c = lowered_never c.args.self.now c.args.clock (sym c.is_registered.ensures ∙ c.if-is_registered.false)
