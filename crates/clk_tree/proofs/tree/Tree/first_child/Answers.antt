-- What comes behind the end of the children.
use Rattle.std.proofs.Common.{length}
use Rattle.clk_tree.specs.Rings.{ring_of}
use Rattle.clk_tree.proofs.HeldLaws.{first_is, no_child}
use Rattle.clk_tree.proofs.tree.Tree.first_child.Goals as goal

pub returns-then-p-count-clause-first : goal.returns-then-p-count-clause-first
returns-then-p-count-clause-first c =
    let m = c.self.inside in
    rw (← c.self.view_is)
    (no_child m.desc.defs m.clocks.items (ring_of m.turns (length m.desc.defs)) m.rates.items c.count_of-count.result c.args.p.0 0 c.self.invariant.tree c.count_of-count.ensures.count c.if-p-count.true)

pub returns-clause-first : goal.returns-clause-first
returns-clause-first c =
    let m = c.self.inside in
    rw (← c.self.view_is)
    (first_is m.desc.defs m.clocks.items m.rates.items m.turns m.siblings m.plls m.rooted.items c.count_of-count.result c.end_of-end.result c.after.result c.args.p c.as_clock.result
    c.self.invariant c.if-p-count.false c.count_of-count.ensures.count c.end_of-end.ensures c.after.ensures.next c.as_clock.ensures)
