-- A place among the roots, or behind them among the orphans.
use Rattle.std.proofs.Common.{ap, ◌∙◌, sym, length, Option, Ok, Err}
use Rattle.std.specs.Option.{option_map}
use Rattle.clk_base.specs.declared.clock.ClockId.{ClockId}
use Rattle.clk_model.specs.Tree.{roots, orphans}
use Rattle.clk_tree.specs.declared.group.Group.TheVariants.{Roots, Orphans}
use Rattle.clk_tree.specs.Rings.{ring_of}
use Rattle.clk_tree.proofs.Along.{clock_at, get_first, get_second}
use Rattle.clk_tree.proofs.HeldLaws.{at_place}
use Rattle.clk_tree.proofs.tree.Tree.top.Goals as goal

pub returns-in-Ok-clause-top : goal.returns-in-Ok-clause-top
returns-in-Ok-clause-top c =
    let m = c.self.inside in
    let order = ring_of m.turns (length m.desc.defs) in
    rw (← c.self.view_is)
    (sym (get_first (roots m.desc.defs order) (orphans m.desc.defs order m.clocks.items) c.args.k c.in-Ok.root.0
    (at_place m.desc.defs m.clocks.items m.rates.items m.turns m.siblings m.plls m.rooted.items c.count_of-count.result c.end_of-roots.result c.args.k Roots (Ok c.in-Ok.root)
    c.self.invariant tt c.count_of-count.ensures.count c.end_of-roots.ensures c.in-Ok.ensures)))

pub returns-in-Err-clause-top : goal.returns-in-Err-clause-top
returns-in-Err-clause-top c =
    let m = c.self.inside in
    let order = ring_of m.turns (length m.desc.defs) in
    let left = c.in-Err.left in
    rw (← c.self.view_is)
    (ap (λ (o : Option ClockId). option_map (λ d. d.0) o) c.ok.ensures.value
    ∙ clock_at (orphans m.desc.defs order m.clocks.items) left c.nth_behind-in-Err.result
    (at_place m.desc.defs m.clocks.items m.rates.items m.turns m.siblings m.plls m.rooted.items c.count_of-count.result c.end_of-orphans.result left Orphans c.nth_behind-in-Err.result
    c.self.invariant tt c.count_of-count.ensures.count c.end_of-orphans.ensures c.nth_behind-in-Err.ensures)
    ∙ sym (get_second (roots m.desc.defs order) (orphans m.desc.defs order m.clocks.items) c.args.k left
    (at_place m.desc.defs m.clocks.items m.rates.items m.turns m.siblings m.plls m.rooted.items c.count_of-count.result c.end_of-roots.result c.args.k Roots (Err left)
    c.self.invariant tt c.count_of-count.ensures.count c.end_of-roots.ensures c.in-Err.ensures)))
