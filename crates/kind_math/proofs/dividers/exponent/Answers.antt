use Rattle.std.proofs.Common.{arith}
use Rattle.kind_math.proofs.DivisorLaws.{no_lesser_power}
use Rattle.kind_math.proofs.dividers.exponent.Goals as goal

pub returns-else-wanted-le1-clause-least : goal.returns-else-wanted-le1-clause-least
returns-else-wanted-le1-clause-least c k reaches =
    no_lesser_power c.args.wanted c.ilog2.result k c.ilog2.ensures.power_le (omega arith) reaches
