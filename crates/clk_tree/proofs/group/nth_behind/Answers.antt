-- The clock at the place, or how many clocks there are.
use Rattle.std.proofs.Common.{◌≡◌, ℕ, suc, ◌+◌, ◌<◌, ◌≤◌, Some, arith, drop, length, sym, subst}
use Rattle.std.specs.Prelude.{slice_get, slice_index}
use Rattle.clk_tree.proofs.Along.{ComesAt, leads_comes, go_on, get_within, stops}
use Rattle.clk_tree.proofs.group.nth_behind.Goals as goal

pub loop-step-init : goal.loop-step-init
loop-step-init c = record {
  inside = c.after-at.ensures.inside;
  comes = λ xs below le is. (omega arith, subst (λ (a : ℕ). ComesAt c.args.siblings.now c.args.end a xs) (sym c.after-at.ensures.next) (leads_comes c.args.siblings.now c.args.end c.args.end xs is));
}

pub loop-step-preserved : goal.loop-step-preserved
loop-step-preserved c = record {
  inside = c.after-at-in-loop-step.ensures.inside;
  comes = λ xs below le is.
      let ring = c.args.siblings.now in
      let so_far = c.loop-step.invariant.comes xs below le is in
      let on = go_on ring c.args.end c.loop-step.at c.args.count c.loop-step.step xs le c.if-at-count.false so_far.1 in
      let few : c.loop-step.step < length xs = get_within xs c.loop-step.step c.loop-step.at on.0 in
      let one : suc c.loop-step.step ≡ c.loop-step.step + 1 = omega arith in (
        omega arith,
        subst (λ (a : ℕ). ComesAt ring c.args.end a (drop (c.loop-step.step + 1) xs)) (sym c.after-at-in-loop-step.ensures.next)
            (subst (λ (n : ℕ). ComesAt ring c.args.end (slice_index ring c.loop-step.at) (drop n xs)) one on.1),
      );
}

pub returns-then-at-count : goal.returns-then-at-count
returns-then-at-count c = λ xs below le is.
    let so_far = c.loop-step.invariant.comes xs below le is in
    let all : length xs ≤ c.loop-step.step = stops c.args.siblings.now c.args.end c.loop-step.at c.args.count c.loop-step.step xs below c.if-at-count.true so_far.1 in
    let few = so_far.0 in
    let more = c.loop-step-test.true in
    omega arith

pub returns-then-at-count-2 : goal.returns-then-at-count-2
returns-then-at-count-2 c = λ xs below le is.
    let last : c.loop-step.step ≡ c.args.k = let ended = c.loop-step-test.false in let within = c.loop-step.auto.step-end in omega arith in
    let so_far = c.loop-step.invariant.comes xs below le is in
    subst (λ (n : ℕ). slice_get xs n ≡ Some c.loop-step.at) last (go_on c.args.siblings.now c.args.end c.loop-step.at c.args.count c.loop-step.step xs le c.if-at-count-2.true so_far.1).0

pub returns-else-at-count-2 : goal.returns-else-at-count-2
returns-else-at-count-2 c = λ xs below le is.
    let last : c.loop-step.step ≡ c.args.k = let ended = c.loop-step-test.false in let within = c.loop-step.auto.step-end in omega arith in
    let so_far = c.loop-step.invariant.comes xs below le is in
    let all : length xs ≤ c.loop-step.step = stops c.args.siblings.now c.args.end c.loop-step.at c.args.count c.loop-step.step xs below c.if-at-count-2.false so_far.1 in
    let few = so_far.0 in
    omega arith
