use Rattle.std.proofs.Common.{sym}
use Rattle.clk_phase.proofs.Steps.{best_is}
use Rattle.clk_phase.proofs.degrees.best.Goals as goal

pub returns-clause-value : goal.returns-clause-value
returns-clause-value c = sym (best_is c.args.steps c.args.degrees c.requires.some c.requires.less).0
