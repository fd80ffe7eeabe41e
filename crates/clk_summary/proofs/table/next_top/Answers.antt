use Rattle.std.proofs.Common.{◌∙◌, ◌++◌, ap}
use Rattle.std.specs.Prelude.{slice_get}
use Rattle.clk_model.specs.Tree.{roots, orphans}
use Rattle.clk_summary.proofs.Trees.{next_beside, top_within}
use Rattle.clk_summary.proofs.table.next_top.Goals as goal

pub returns-in-Some-clause-next : goal.returns-in-Some-clause-next
returns-in-Some-clause-next c = λ k is at.
    let t = c.args.tree.now in
    next_beside t k c.args.clock.0 c.in-Some.next at c.in-Some.ensures.root c.in-Some.ensures.orphan
    ∙ ap (slice_get (roots t.defs t.order ++ orphans t.defs t.order t.clocks)) is

pub returns-in-None-clause-inside : goal.returns-in-None-clause-inside
returns-in-None-clause-inside c = top_within c.args.tree.now c.args.place c.top.result c.top.ensures.stands c.top.ensures.top
