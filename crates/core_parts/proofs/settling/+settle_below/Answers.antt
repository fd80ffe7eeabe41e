-- The clock, then child by child all that is below it.
use Rattle.std.proofs.Common.{◌≡◌, ℕ, suc, ◌-◌, ◌+◌, ◌≤◌, ◌<◌, length, refl, ap, subst, ◌∙◌, arith, Some, Option}
use Rattle.clk_base.specs.declared.clock.ClockId.{ClockId}
use Rattle.clk_base.specs.Description.{Description}
use Rattle.clk_model.specs.State.{requested}
use Rattle.clk_model.specs.Tree.{children}
use Rattle.core_parts.proofs.SettledRows.{Settling, settling_begins, settling_goes, settling_done, settling_inside, none_next, few_children}
use Rattle.core_parts.proofs.settling.+settle_below.Goals as goal

pub loop-step-init : goal.loop-step-init
loop-step-init t c =
    settling_begins c.args.tree.now c.set_last_request.new.self (c.args.levels - 1) c.args.clock.0 c.first_child-next.result
    (c.set_last_request.ensures.request ∙ ap (requested c.args.tree.now.clocks c.args.clock.0) c.rate-rate.ensures.rate)
    c.set_last_request.ensures.order c.set_last_request.ensures.rates c.set_last_request.ensures.defs c.set_last_request.ensures.words c.set_last_request.ensures.stands c.first_child-next.ensures.first

pub returns-in_default-clause-clocks : goal.returns-in_default-clause-clocks
returns-in_default-clause-clocks t c =
    let deep : c.args.levels ≡ suc (c.args.levels - 1) = let some = c.if-levels-eq0.false in omega arith in
    settling_done c.args.tree.now c.loop-step.tree c.args.levels (c.args.levels - 1) c.args.clock.0 c.loop-step.next c.loop-step._step deep c.loop-step.invariant
    (none_next (children c.args.tree.now.order c.args.tree.now.clocks c.args.clock.0) c.loop-step._step c.loop-step.next c.loop-step.invariant.next_ c.in_default.is)

pub settle_below-requires : goal.settle_below-requires
settle_below-requires t c =
    let fuel = c.decreases in
    let some = c.if-levels-eq0.false in
    let less : c.args.levels - 1 < t = omega arith in
    let here : Settling c.args.tree.now c.loop-step.tree (c.args.levels - 1) c.args.clock.0 (Some c.in-Some.child) c.loop-step._step =
    subst (λ (o : Option ClockId). Settling c.args.tree.now c.loop-step.tree (c.args.levels - 1) c.args.clock.0 o c.loop-step._step) c.in-Some.is c.loop-step.invariant in
    (less, settling_inside c.args.tree.now c.loop-step.tree (c.args.levels - 1) c.args.clock.0 c.in-Some.child c.loop-step._step here)

pub loop-step-preserved : goal.loop-step-preserved
loop-step-preserved t c =
    let here : Settling c.args.tree.now c.loop-step.tree (c.args.levels - 1) c.args.clock.0 (Some c.in-Some.child) c.loop-step._step =
    subst (λ (o : Option ClockId). Settling c.args.tree.now c.loop-step.tree (c.args.levels - 1) c.args.clock.0 o c.loop-step._step) c.in-Some.is c.loop-step.invariant in
    subst (λ (n : ℕ). Settling c.args.tree.now c.settle_below.new.tree (c.args.levels - 1) c.args.clock.0 c.next_sibling-next.result n) (let one : suc c.loop-step._step ≡ c.loop-step._step + 1 = omega arith in one)
    (settling_goes c.args.tree.now c.loop-step.tree c.settle_below.new.tree (c.args.levels - 1) c.args.clock.0 c.in-Some.child c.next_sibling-next.result c.loop-step._step here
    c.settle_below.ensures.clocks c.settle_below.ensures.order c.settle_below.ensures.rates c.settle_below.ensures.defs c.settle_below.ensures.checked c.settle_below.ensures.stands c.next_sibling-next.ensures.child)

pub returns-clause-clocks : goal.returns-clause-clocks
returns-clause-clocks t c =
    let deep : c.args.levels ≡ suc (c.args.levels - 1) = let some = c.if-levels-eq0.false in omega arith in
    let few : length (children c.args.tree.now.order c.args.tree.now.clocks c.args.clock.0) ≤ length c.args.tree.now.defs =
    few_children c.args.tree.now (length c.args.tree.now.defs) c.args.clock.0 c.rate-rate.ensures.stands refl in
    let count = c.len-step-end.ensures.len ∙ ap (λ (ds : Description). length ds) c.set_last_request.ensures.defs in
    let past = c.loop-step-test.false in
    let over : length (children c.args.tree.now.order c.args.tree.now.clocks c.args.clock.0) ≤ c.loop-step._step = omega arith in
    settling_done c.args.tree.now c.loop-step.tree c.args.levels (c.args.levels - 1) c.args.clock.0 c.loop-step.next c.loop-step._step deep c.loop-step.invariant over
