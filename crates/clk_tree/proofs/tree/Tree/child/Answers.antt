-- A place in the list of children.
use Rattle.std.proofs.Common.{ap, ◌∙◌}
use Rattle.std.specs.Option.{option_map}
use Rattle.clk_tree.specs.Rings.{ring_of}
use Rattle.std.proofs.Common.{length, Option}
use Rattle.clk_base.specs.declared.clock.ClockId.{ClockId}
use Rattle.clk_tree.proofs.HeldLaws.{child_is, no_child}
use Rattle.clk_tree.proofs.tree.Tree.child.Goals as goal

pub returns-then-p-count-clause-child : goal.returns-then-p-count-clause-child
returns-then-p-count-clause-child c =
    let m = c.self.inside in
    rw (← c.self.view_is)
    (no_child m.desc.defs m.clocks.items (ring_of m.turns (length m.desc.defs)) m.rates.items c.count_of-count.result c.args.p.0 c.args.k c.self.invariant.tree c.count_of-count.ensures.count c.if-p-count.true)

pub returns-clause-child : goal.returns-clause-child
returns-clause-child c =
    let m = c.self.inside in
    rw (← c.self.view_is)
    (ap (λ (o : Option ClockId). option_map (λ d. d.0) o) c.ok.ensures.value
    ∙ child_is m.desc.defs m.clocks.items m.rates.items m.turns m.siblings m.plls m.rooted.items c.count_of-count.result c.end_of-end.result c.args.k c.args.p c.nth_behind.result
    c.self.invariant c.if-p-count.false c.count_of-count.ensures.count c.end_of-end.ensures c.nth_behind.ensures)
