use Rattle.std.proofs.Common.{ap, ◌∙◌, nat_le, arith}
use Rattle.std.specs.Int.{div_ceil}
use Rattle.kind_math.specs.Dividers.{least_or_greatest}
use Rattle.kind_math.specs.Tables.{divisors_of}
use Rattle.kind_math.proofs.TableLaws.{planned_nothing, planned_by}
use Rattle.kind_math.proofs.tables.planned_divisor.Goals as goal
use Rattle.kind_math.proofs.tables.planned_divisor.Goals.{else-rate-eq0-via-then-rate-eq0+else-parent-gt0, else-rate-eq0-via-else-rate-eq0}

pub returns-then-parent-gt0 : goal.returns-then-parent-gt0
returns-then-parent-gt0 c =
    c.greatest_divisor.ensures ∙ planned_nothing c.args.parent c.args.rate c.args.table.now c.requires (omega arith) c.if-parent-gt0.true

pub returns : goal.returns
returns c =
    planned_by c.args.parent c.args.rate c.least_divisor.result c.args.table.now c.requires
    (elim c.else-rate-eq0.branch [
      | else-rate-eq0-via-then-rate-eq0+else-parent-gt0 w ↦ λ none. omega (arith, w.if-parent-gt0.false)
      | else-rate-eq0-via-else-rate-eq0 w ↦ λ none. absurd (w.if-rate-eq0.false none)
    ])
    (c.least_divisor.ensures
    ∙ ap (λ n. least_or_greatest (λ d. nat_le n d) (divisors_of c.args.table.now)) (c.div_ceil.ensures ∙ ap (div_ceil c.args.parent) c.max.ensures))
