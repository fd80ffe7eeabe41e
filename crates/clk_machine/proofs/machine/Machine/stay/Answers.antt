use Rattle.clk_machine.proofs.Along.{along_last}
use Rattle.clk_machine.proofs.machine.Machine.stay.Goals as goal

pub returns : goal.returns
returns g c = λ d m a. along_last c.args.self.now c.args.self.now d m a c.requires.going c.requires.first
