-- The work of a clock is over that of its possible parents.
use Rattle.std.proofs.Common.{◌≡◌, ℕ, min, ap, ◌∙◌, arith, length}
use Rattle.std.proofs.lemmas.List.{get_or_read, length_push}
use Rattle.clk_base.specs.declared.clock.ClockDef.{ClockDef}
use Rattle.clk_base.specs.Description.{nobody, parents_of}
use Rattle.clk_base.specs.Tables.{too_much}
use Rattle.clk_base.specs.Valid.{has_ranges}
use Rattle.clk_base.proofs.Tabled.{parents_inside, parents_count, entry_more}
use Rattle.clk_base.proofs.Worked.{parents_few, work_over, work_read, TellsWork-more}
use Rattle.clk_base.proofs.rules.work.one_level_more.Goals as goal

pub sum_of-requires-clause-inside : goal.sum_of-requires-clause-inside
sum_of-requires-clause-inside c =
    parents_inside c.args.defs.now c.loop-def.def-index (length c.args.above.now) c.def-item.result c.as_slice-parents.result.now c.requires.parents c.loop-def-test.true c.def-item.is c.as_slice-parents.ensures c.requires.each

pub sum_of-requires-clause-few : goal.sum_of-requires-clause-few
sum_of-requires-clause-few c =
    omega (arith, parents_few c.args.defs.now c.requires.counts c.loop-def.def-index c.loop-def-test.true, parents_count c.args.defs.now c.loop-def.def-index c.def-item.result c.as_slice-parents.result.now c.loop-def-test.true c.def-item.is c.as_slice-parents.ensures)

pub work_of-work-requires-clause-few : goal.work_of-work-requires-clause-few
work_of-work-requires-clause-few c =
    omega (arith, parents_few c.args.defs.now c.requires.counts c.loop-def.def-index c.loop-def-test.true, parents_count c.args.defs.now c.loop-def.def-index c.def-item.result c.as_slice-parents.result.now c.loop-def-test.true c.def-item.is c.as_slice-parents.ensures)

pub work_of-work-requires-clause-ranges : goal.work_of-work-requires-clause-ranges
work_of-work-requires-clause-ranges c =
    ap (has_ranges c.def-item.result.kind) (parents_count c.args.defs.now c.loop-def.def-index c.def-item.result c.as_slice-parents.result.now c.loop-def-test.true c.def-item.is c.as_slice-parents.ensures)
    ∙ (ap (λ (d : ClockDef). has_ranges d.kind (length (parents_of c.args.defs.now c.loop-def.def-index))) (get_or_read c.args.defs.now c.loop-def.def-index c.def-item.result c.loop-def-test.true c.def-item.is nobody)
    ∙ c.requires.ranges c.loop-def.def-index c.loop-def-test.true)

pub loop-def-preserved : goal.loop-def-preserved
loop-def-preserved c =
    let here : c.min.result ≡ work_over c.args.defs.now c.args.above.now c.loop-def.def-index =
    c.min.ensures
    ∙ ap (λ n. min n too_much) (c.work_of-work.ensures
    ∙ work_read c.args.defs.now c.args.above.now c.loop-def.def-index c.def-item.result c.as_slice-parents.result.now c.contains-passes_on.result c.sum_of.result c.loop-def-test.true c.def-item.is c.as_slice-parents.ensures (c.contains-passes_on.ensures tt) c.sum_of.ensures.sum) in
    rw c.in_ok-push.ensures.items (record {
      each = omega (arith, length_push c.loop-def.works.items c.min.result, c.loop-def.invariant.each);
      told = entry_more (λ (k n : ℕ). n ≡ work_over c.args.defs.now c.args.above.now k) c.loop-def.works.items c.loop-def.def-index c.min.result 0 c.loop-def.invariant.each c.loop-def.invariant.told here;
    })

pub returns : goal.returns
returns c = λ levels tells.
    TellsWork-more c.args.defs.now levels c.args.above.now c.loop-def.works.items c.requires.parents tells
    (omega (arith, c.loop-def.invariant.each, c.loop-def-test.false, c.loop-def.auto.def-index-end))
    (λ k lt. c.loop-def.invariant.told k (omega (arith, c.loop-def-test.false)))
