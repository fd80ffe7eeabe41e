use Rattle.clk_machine.proofs.Landings.{own_there}
use Rattle.clk_machine.proofs.machine.Machine.own_row.Goals as goal

pub returns-clause-there : goal.returns-clause-there
returns-clause-there g c = own_there c.args.self.now c.args.handle.number c.own.result c.own.ensures.whole c.own.ensures.live
