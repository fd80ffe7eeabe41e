use Rattle.std.proofs.Common.{ap, sym, ◌∙◌, arith}
use Rattle.std.specs.Int.{div_ceil}
use Rattle.kind_math.proofs.TableLaws.{rate_leaves, rate_divides}
use Rattle.kind_math.proofs.tables.table_rate.Goals as goal

pub returns-then-div-eq0 : goal.returns-then-div-eq0
returns-then-div-eq0 c =
    rate_leaves c.args.parent c.args.field c.args.table.now (sym c.divisor_of-div.ensures ∙ c.if-div-eq0.true)

pub returns-else-div-eq0 : goal.returns-else-div-eq0
returns-else-div-eq0 c =
    c.quotient_up.ensures ∙ ap (div_ceil c.args.parent) c.from.ensures
    ∙ rate_divides c.args.parent c.args.field c.divisor_of-div.result c.args.table.now c.divisor_of-div.ensures (omega arith)
