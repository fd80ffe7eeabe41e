-- What comes behind a clock in the ring of its group.
use Rattle.std.proofs.Common.{◌∙◌, ◌<◌, arith, length, sym}
use Rattle.clk_base.specs.declared.clock.ClockId.{ClockId}
use Rattle.clk_tree.specs.declared.group.Group.TheVariants.{Roots, Orphans, ChildrenOf}
use Rattle.clk_tree.specs.Rings.{ring_of}
use Rattle.clk_tree.proofs.HeldLaws.{next_is, parent_place, no_member, not_alone}
use Rattle.clk_tree.proofs.tree.Tree.next_sibling.Goals as goal

pub returns-then-c-count-clause-child : goal.returns-then-c-count-clause-child
returns-then-c-count-clause-child c = λ p k at.
    let m = c.self.inside in
    let parent : ClockId = record { 0 = p } in
    absurd (no_member m.desc.defs m.clocks.items (ring_of m.turns (length m.desc.defs)) m.rates.items c.count_of-count.result c.args.c.0 k (ChildrenOf parent) c.self.invariant.tree c.count_of-count.ensures.count c.if-c-count.true (rw (← c.self.view_is) at at))

pub returns-then-c-count-clause-root : goal.returns-then-c-count-clause-root
returns-then-c-count-clause-root c = λ k at.
    let m = c.self.inside in
    absurd (no_member m.desc.defs m.clocks.items (ring_of m.turns (length m.desc.defs)) m.rates.items c.count_of-count.result c.args.c.0 k Roots c.self.invariant.tree c.count_of-count.ensures.count c.if-c-count.true (rw (← c.self.view_is) at at))

pub returns-then-c-count-clause-orphan : goal.returns-then-c-count-clause-orphan
returns-then-c-count-clause-orphan c = λ k at.
    let m = c.self.inside in
    absurd (no_member m.desc.defs m.clocks.items (ring_of m.turns (length m.desc.defs)) m.rates.items c.count_of-count.result c.args.c.0 k Orphans c.self.invariant.tree c.count_of-count.ensures.count c.if-c-count.true (rw (← c.self.view_is) at at))

pub returns-then-next-c-clause-child : goal.returns-then-next-c-clause-child
returns-then-next-c-clause-child c = λ p k at.
    let m = c.self.inside in
    let parent : ClockId = record { 0 = p } in
    let here = rw (← c.self.view_is) at at in
    absurd (not_alone m.desc.defs m.clocks.items m.rates.items m.turns m.siblings m.plls m.rooted.items c.args.c.0 k (ChildrenOf parent) c.self.invariant (parent_place m.desc.defs m.clocks.items (ring_of m.turns (length m.desc.defs)) m.rates.items c.args.c.0 p k c.self.invariant.tree here) here (sym c.after-next.ensures.next ∙ c.if-next-c.true))

pub returns-then-next-c-clause-root : goal.returns-then-next-c-clause-root
returns-then-next-c-clause-root c = λ k at.
    let m = c.self.inside in
    absurd (not_alone m.desc.defs m.clocks.items m.rates.items m.turns m.siblings m.plls m.rooted.items c.args.c.0 k Roots c.self.invariant tt (rw (← c.self.view_is) at at) (sym c.after-next.ensures.next ∙ c.if-next-c.true))

pub returns-then-next-c-clause-orphan : goal.returns-then-next-c-clause-orphan
returns-then-next-c-clause-orphan c = λ k at.
    let m = c.self.inside in
    absurd (not_alone m.desc.defs m.clocks.items m.rates.items m.turns m.siblings m.plls m.rooted.items c.args.c.0 k Orphans c.self.invariant tt (rw (← c.self.view_is) at at) (sym c.after-next.ensures.next ∙ c.if-next-c.true))

pub after-next-requires : goal.after-next-requires
after-next-requires c =
    let m = c.self.inside in
    let size = c.self.invariant.listed.size in
    let n = c.count_of-count.ensures.count in
    let before = c.if-c-count.false in
    omega arith

pub returns-clause-child : goal.returns-clause-child
returns-clause-child c = λ p k at.
    let m = c.self.inside in
    let parent : ClockId = record { 0 = p } in
    let here = rw (← c.self.view_is) at at in
    rw (← c.self.view_is)
    (next_is m.desc.defs m.clocks.items m.rates.items m.turns m.siblings m.plls m.rooted.items c.count_of-count.result c.after-next.result c.args.c.0 k (ChildrenOf parent) c.as_clock.result
    c.self.invariant (parent_place m.desc.defs m.clocks.items (ring_of m.turns (length m.desc.defs)) m.rates.items c.args.c.0 p k c.self.invariant.tree here)
    c.count_of-count.ensures.count c.after-next.ensures.next c.as_clock.ensures here)

pub returns-clause-root : goal.returns-clause-root
returns-clause-root c = λ k at.
    let m = c.self.inside in
    rw (← c.self.view_is)
    (next_is m.desc.defs m.clocks.items m.rates.items m.turns m.siblings m.plls m.rooted.items c.count_of-count.result c.after-next.result c.args.c.0 k Roots c.as_clock.result
    c.self.invariant tt c.count_of-count.ensures.count c.after-next.ensures.next c.as_clock.ensures (rw (← c.self.view_is) at at))

pub returns-clause-orphan : goal.returns-clause-orphan
returns-clause-orphan c = λ k at.
    let m = c.self.inside in
    rw (← c.self.view_is)
    (next_is m.desc.defs m.clocks.items m.rates.items m.turns m.siblings m.plls m.rooted.items c.count_of-count.result c.after-next.result c.args.c.0 k Orphans c.as_clock.result
    c.self.invariant tt c.count_of-count.ensures.count c.after-next.ensures.next c.as_clock.ensures (rw (← c.self.view_is) at at))

pub returns-clause-alone : goal.returns-clause-alone
returns-clause-alone c = λ gone.
    let m = c.self.inside in
    let n = c.count_of-count.ensures.count in
    let before = c.if-c-count.false in
    let place : c.args.c.0 < length m.desc.defs = omega arith in
    absurd (c.if-next-c.false (c.after-next.ensures.next ∙ c.self.invariant.alone c.args.c.0 place (rw (← c.self.view_is) at gone)))
