use Rattle.std.proofs.Common.{sym, ◌∙◌, false}
use Rattle.dts_clocks.specs.Above.{is_passed}
use Rattle.dts_clocks.proofs.Joins.{length-listed, get-listed}
use Rattle.dts_clocks.proofs.Uplines.{passed_when_off, passed_by_parent, parent_of-before}
use Rattle.dts_clocks.proofs.above.is_passed.Goals as goal

pub returns-then-not-is_okay : goal.returns-then-not-is_okay
returns-then-not-is_okay c = passed_when_off c.args.nodes.now c.args.at c.node.result c.is_okay.result c.node.ensures c.is_okay.ensures c.if-not-is_okay.true

pub bounds-passed-parent : goal.bounds-passed-parent
bounds-passed-parent c =
    let before = parent_of-before c.args.nodes.now c.args.at c.in-Some.parent (sym c.parent_of.ensures ∙ c.in-Some.is) in
    rw c.requires.known (rw (length-listed (is_passed c.args.nodes.now) c.args.at) before)

pub returns-in-Some : goal.returns-in-Some
returns-in-Some c =
    let before = parent_of-before c.args.nodes.now c.args.at c.in-Some.parent (sym c.parent_of.ensures ∙ c.in-Some.is) in
    let up = passed_by_parent c.args.nodes.now c.args.at c.node.result c.is_okay.result _ c.node.ensures c.is_okay.ensures c.if-not-is_okay.false (sym c.in-Some.is ∙ c.parent_of.ensures) in
    rw c.requires.known (get-listed (is_passed c.args.nodes.now) c.args.at c.in-Some.parent false before ∙ up)

pub returns-in-None : goal.returns-in-None
returns-in-None c = passed_by_parent c.args.nodes.now c.args.at c.node.result c.is_okay.result _ c.node.ensures c.is_okay.ensures c.if-not-is_okay.false (sym c.in-None.is ∙ c.parent_of.ensures)
