use Rattle.std.proofs.Common.{sym}
use Rattle.drv_scripts.proofs.Negatives.{negative-other}
use Rattle.drv_scripts.proofs.policy_line.negative.Goals as goal

pub returns-in_default : goal.returns-in_default
returns-in_default c = sym (negative-other c.args.digits.now c.in_default.ensures.cases.0)
