use Rattle.std.proofs.Common.{ap, ◌∙◌}
use Rattle.std.specs.Int.{div_ceil}
use Rattle.kind_math.proofs.TableLaws.{nearest_begins}
use Rattle.kind_math.proofs.tables.nearest_rate.Goals as goal

pub loop-row-init : goal.loop-row-init
loop-row-init c = record { left = nearest_begins c.args.parent c.args.wanted c.quotient_up-near.result _ c.args.table.now c.requires.some (c.quotient_up-near.ensures ∙ ap (div_ceil c.args.parent) c.from.ensures) }
