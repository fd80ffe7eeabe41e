use Rattle.kind_math.specs.Tables.{divisors_of}
use Rattle.kind_math.proofs.TableLaws.{greatest_begins}
use Rattle.kind_math.proofs.tables.greatest_divisor.Goals as goal

pub loop-row-init : goal.loop-row-init
loop-row-init c = record { left = greatest_begins (divisors_of c.args.table.now) }
