use Rattle.std.proofs.Common.{arith}
use Rattle.dts_clocks.proofs.Naming.{named_all}
use Rattle.dts_clocks.proofs.specifiers.Named.clocks.Goals as goal

pub returns : goal.returns
returns c = named_all c.args.self.now c.args.cells.now c.loop-at.at c.loop-at.found.items (omega arith) c.loop-at.invariant
