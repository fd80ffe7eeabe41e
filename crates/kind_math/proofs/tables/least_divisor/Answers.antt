use Rattle.std.proofs.Common.{ap, sym, refl, ◌∙◌, nat_le, List, drop, arith, ◌+◌, []}
use Rattle.std.proofs.lemmas.List.{at_drop_more, at_drop_all}
use Rattle.kind_math.specs.declared.table_row.TableRow.{TableRow}
use Rattle.kind_math.specs.Choices.{least}
use Rattle.kind_math.specs.Tables.{divisors_of, lesser}
use Rattle.kind_math.proofs.TableLaws.{picked_some, picked_none}
use Rattle.kind_math.proofs.tables.least_divisor.Goals as goal

pub loop-row-init : goal.loop-row-init
loop-row-init c = record { left = refl }

pub loop-row-preserved : goal.loop-row-preserved
loop-row-preserved c = record {
  left =
      c.lesser-found.ensures (divisors_of (drop (c.loop-row.row-index + 1) c.args.table.now))
      ∙ sym (at_drop_more (λ (rows : List TableRow). lesser (λ d. nat_le c.args.wanted d) c.loop-row.found (divisors_of rows)) c.args.table.now c.loop-row.row-index _ c.loop-row-test.true)
      ∙ c.loop-row.invariant.left;
}

pub returns-in-Some : goal.returns-in-Some
returns-in-Some c =
    picked_some (λ d. nat_le c.args.wanted d) (divisors_of c.args.table.now) c.in-Some.div
    (sym c.loop-row.invariant.left
    ∙ at_drop_all (λ (rows : List TableRow). lesser (λ d. nat_le c.args.wanted d) c.loop-row.found (divisors_of rows)) c.args.table.now c.loop-row.row-index (omega arith)
    ∙ ap (λ o. lesser (λ d. nat_le c.args.wanted d) o []) c.in-Some.is)

pub returns-in-None : goal.returns-in-None
unfolding least
returns-in-None c =
    picked_none (λ d. nat_le c.args.wanted d) (divisors_of c.args.table.now) c.greatest_divisor.result
    (sym c.loop-row.invariant.left
    ∙ at_drop_all (λ (rows : List TableRow). lesser (λ d. nat_le c.args.wanted d) c.loop-row.found (divisors_of rows)) c.args.table.now c.loop-row.row-index (omega arith)
    ∙ ap (λ o. lesser (λ d. nat_le c.args.wanted d) o []) c.in-None.is)
    c.greatest_divisor.ensures
