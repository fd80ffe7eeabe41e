use Rattle.kind_math.proofs.TableLaws.{value_sought}
use Rattle.kind_math.proofs.tables.value_of.Goals as goal

pub loop-row-init : goal.loop-row-init
loop-row-init c = record { left = value_sought c.args.table.now c.args.div }
