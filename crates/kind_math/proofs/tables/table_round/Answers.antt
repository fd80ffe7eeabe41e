use Rattle.std.proofs.Common.{ap, ◌∙◌, nat_le}
use Rattle.std.specs.Int.{div_ceil}
use Rattle.kind_math.specs.Dividers.{least_or_greatest}
use Rattle.kind_math.specs.Tables.{divisors_of}
use Rattle.kind_math.proofs.TableLaws.{round_to_closest, round_plain}
use Rattle.kind_math.proofs.tables.table_round.Goals as goal
use Rattle.kind_math.proofs.tables.table_round.Goals.{then-closest, else-closest}

pub returns : goal.returns
returns c = elim c.if-closest.branch [
  | then-closest w ↦
      round_to_closest c.args.parent c.args.rate c.max-wanted.result w.nearest_rate.result c.least_divisor.result c.args.table.now c.args.closest c.requires w.if-closest.true
      c.max-wanted.ensures w.nearest_rate.ensures
      (c.least_divisor.ensures
      ∙ ap (λ n. least_or_greatest (λ d. nat_le n d) (divisors_of c.args.table.now))
      (c.div_ceil.ensures ∙ ap (div_ceil c.args.parent) (w.wanted-is ∙ w.max-wanted-then-closest.ensures)))
  | else-closest w ↦
      round_plain c.args.parent c.args.rate c.if-closest.wanted c.least_divisor.result c.args.table.now c.args.closest w.if-closest.false
      (w.wanted-is ∙ c.max-wanted.ensures)
      (c.least_divisor.ensures ∙ ap (λ n. least_or_greatest (λ d. nat_le n d) (divisors_of c.args.table.now)) c.div_ceil.ensures)
]
