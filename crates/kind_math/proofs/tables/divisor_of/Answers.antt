use Rattle.kind_math.proofs.TableLaws.{divisor_sought}
use Rattle.kind_math.proofs.tables.divisor_of.Goals as goal

pub loop-row-init : goal.loop-row-init
loop-row-init c = record { left = divisor_sought c.args.table.now c.args.value }
