-- What is added clock by clock is the walk.
use Rattle.std.proofs.Common.{◌≡◌, ◌+◌, ◌∷◌, [], Some, refl, ap, sym, subst, ◌∙◌, arith, drop, take}
use Rattle.std.specs.Prelude.{filter, flat_map, option_map, slice_get}
use Rattle.std.proofs.lemmas.Result.{on_ok_weaker}
use Rattle.clk_base.specs.declared.clock.ClockId.{ClockId}
use Rattle.clk_model.specs.Tree.{children}
use Rattle.clk_model.specs.Walk.{below_within, kids_after, movers_to}
use Rattle.clk_tree.specs.Plans.{chain_of}
use Rattle.rate_planner.specs.Walks.{Walks, stays}
use Rattle.rate_planner.proofs.Walking.{walks_none, walks_on, walks_no_level, walks_below, walks_still, walks_whole, walks_alone, stays_walks, moves_walks, moves_none, stays_next, stays_whole, movers_next, child_listed, child_told, children_few}
use Rattle.rate_planner.proofs.walk.+walking.Goals as goal

pub move_below-loop-place-preserved : goal.move_below-loop-place-preserved
move_below-loop-place-preserved g t c = record {
  walked =
      walks_on (g.B.Bank.contents c.args.walker.now.bank.now) c.args.walker.now.tree.now.defs c.args.walker.now.tree.now (chain_of c.args.walker.now.steps.now) c.args.walker.now.rates.now c.args.clock.0 c.args.rate c.args.into.now c.loop-place.into c.move_one.new.into
      (flat_map (below_within (kids_after c.args.walker.now.tree.now.order c.args.walker.now.tree.now.clocks (chain_of c.args.walker.now.steps.now)) c.args.levels) (movers_to c.args.walker.now.tree.now.clocks (take c.loop-place.place (chain_of c.args.walker.now.steps.now)) c.args.clock.0))
      (flat_map (below_within (kids_after c.args.walker.now.tree.now.order c.args.walker.now.tree.now.clocks (chain_of c.args.walker.now.steps.now)) c.args.levels) (movers_to c.args.walker.now.tree.now.clocks (take 1 (drop c.loop-place.place (chain_of c.args.walker.now.steps.now))) c.args.clock.0))
      (flat_map (below_within (kids_after c.args.walker.now.tree.now.order c.args.walker.now.tree.now.clocks (chain_of c.args.walker.now.steps.now)) c.args.levels) (movers_to c.args.walker.now.tree.now.clocks (take (c.loop-place.place + 1) (chain_of c.args.walker.now.steps.now)) c.args.clock.0))
      (movers_next (below_within (kids_after c.args.walker.now.tree.now.order c.args.walker.now.tree.now.clocks (chain_of c.args.walker.now.steps.now)) c.args.levels) c.args.walker.now.tree.now.clocks (chain_of c.args.walker.now.steps.now) c.loop-place.place c.args.clock.0)
      c.loop-place.invariant.walked c.in_ok-move_one.ensures.walked;
  there = λ each. c.in_ok-move_one.ensures.there (c.loop-place.invariant.there each);
}

pub move_one-returns-then-not-moves_to-clause-walked : goal.move_one-returns-then-not-moves_to-clause-walked
move_one-returns-then-not-moves_to-clause-walked g t c =
    moves_none (g.B.Bank.contents c.args.walker.now.bank.now) c.args.walker.now.tree.now.defs c.args.walker.now.tree.now c.args.walker.now.steps.now c.args.walker.now.rates.now c.args.levels c.args.clock.0 c.args.rate c.args.place _ c.args.into.now
    c.requires.place (sym c.moves_to.ensures ∙ c.if-not-moves_to.true)

pub stay_below-loop-step-init : goal.stay_below-loop-step-init
stay_below-loop-step-init g t c = record {
  at = c.first_child-at.ensures.first;
  next = child_told c.args.walker.now.tree.now.defs c.args.walker.now.tree.now.clocks c.args.walker.now.tree.now.order c.args.walker.now.tree.now.rates c.args.clock.0 0 c.first_child-at.result c.first_child-at.ensures.stands c.first_child-at.ensures.first;
  walked = walks_none (g.B.Bank.contents c.args.walker.now.bank.now) c.args.walker.now.tree.now.defs c.args.walker.now.tree.now (chain_of c.args.walker.now.steps.now) c.args.walker.now.rates.now c.args.clock.0 c.args.rate c.args.into.now _ refl;
  there = λ each. each;
}

pub stay_below-loop-step-preserved : goal.stay_below-loop-step-preserved
stay_below-loop-step-preserved g t c =
    let here : slice_get (children c.args.walker.now.tree.now.order c.args.walker.now.tree.now.clocks c.args.clock.0) c.loop-step._step ≡ Some c.in-Some.child.0 = sym (c.loop-step.invariant.at ∙ refl) ∙ ap (λ o. option_map (λ (d : ClockId). d.0) o) c.in-Some.is in
    record {
      at = c.next_sibling-at.ensures.child c.args.clock.0 c.loop-step._step here;
      next = child_told c.args.walker.now.tree.now.defs c.args.walker.now.tree.now.clocks c.args.walker.now.tree.now.order c.args.walker.now.tree.now.rates c.args.clock.0 (c.loop-step._step + 1) c.next_sibling-at.result c.next_sibling-at.ensures.stands (c.next_sibling-at.ensures.child c.args.clock.0 c.loop-step._step here);
      walked =
          walks_on (g.B.Bank.contents c.args.walker.now.bank.now) c.args.walker.now.tree.now.defs c.args.walker.now.tree.now (chain_of c.args.walker.now.steps.now) c.args.walker.now.rates.now c.args.clock.0 c.args.rate c.args.into.now c.loop-step.into c.stay_one.new.into
          (flat_map (below_within (kids_after c.args.walker.now.tree.now.order c.args.walker.now.tree.now.clocks (chain_of c.args.walker.now.steps.now)) c.args.levels) (filter (stays c.args.walker.now.tree.now.clocks (chain_of c.args.walker.now.steps.now)) (take c.loop-step._step (children c.args.walker.now.tree.now.order c.args.walker.now.tree.now.clocks c.args.clock.0))))
          (flat_map (below_within (kids_after c.args.walker.now.tree.now.order c.args.walker.now.tree.now.clocks (chain_of c.args.walker.now.steps.now)) c.args.levels) (filter (stays c.args.walker.now.tree.now.clocks (chain_of c.args.walker.now.steps.now)) (c.in-Some.child.0 ∷ [])))
          (flat_map (below_within (kids_after c.args.walker.now.tree.now.order c.args.walker.now.tree.now.clocks (chain_of c.args.walker.now.steps.now)) c.args.levels) (filter (stays c.args.walker.now.tree.now.clocks (chain_of c.args.walker.now.steps.now)) (take (c.loop-step._step + 1) (children c.args.walker.now.tree.now.order c.args.walker.now.tree.now.clocks c.args.clock.0))))
          (stays_next (below_within (kids_after c.args.walker.now.tree.now.order c.args.walker.now.tree.now.clocks (chain_of c.args.walker.now.steps.now)) c.args.levels) (stays c.args.walker.now.tree.now.clocks (chain_of c.args.walker.now.steps.now)) (children c.args.walker.now.tree.now.order c.args.walker.now.tree.now.clocks c.args.clock.0) c.loop-step._step c.in-Some.child.0 here)
          c.loop-step.invariant.walked
          (c.in_ok-stay_one.ensures.walked c.args.clock.0 (child_listed c.args.walker.now.tree.now.defs c.args.walker.now.tree.now.clocks c.args.walker.now.tree.now.order c.args.walker.now.tree.now.rates c.args.clock.0 c.loop-step._step c.in-Some.child.0 c.first_child-at.ensures.stands here).0);
      there = λ each. c.in_ok-stay_one.ensures.there (c.loop-step.invariant.there each);
    }

pub stay_below-returns-clause-walked : goal.stay_below-returns-clause-walked
stay_below-returns-clause-walked g t c =
    let few = children_few c.args.walker.now.tree.now.defs c.args.walker.now.tree.now.clocks c.args.walker.now.tree.now.order c.args.walker.now.tree.now.rates c.args.clock.0 c.first_child-at.ensures.stands in
    subst (λ xs. Walks (g.B.Bank.contents c.args.walker.now.bank.now) c.args.walker.now.tree.now.defs c.args.walker.now.tree.now (chain_of c.args.walker.now.steps.now) c.args.walker.now.rates.now c.args.clock.0 c.args.rate c.args.into.now c.loop-step.into xs)
    (stays_whole (below_within (kids_after c.args.walker.now.tree.now.order c.args.walker.now.tree.now.clocks (chain_of c.args.walker.now.steps.now)) c.args.levels) (stays c.args.walker.now.tree.now.clocks (chain_of c.args.walker.now.steps.now)) (children c.args.walker.now.tree.now.order c.args.walker.now.tree.now.clocks c.args.clock.0) c.loop-step._step (let past = c.loop-step-test.false in let is = c.len-step-end.ensures.len in omega arith))
    c.loop-step.invariant.walked

pub move_one-returns-in_ok-walk_below-clause-walked : goal.move_one-returns-in_ok-walk_below-clause-walked
move_one-returns-in_ok-walk_below-clause-walked g t c =
    moves_walks (g.B.Bank.contents c.args.walker.now.bank.now) c.args.walker.now.tree.now.defs c.args.walker.now.tree.now c.args.walker.now.steps.now c.args.walker.now.rates.now c.args.levels c.args.clock.0 c.args.rate c.args.place c.kid_rate-own.result.0 _
    c.args.into.now c.walk_below.new.into
    c.requires.place (sym c.moves_to.ensures ∙ c.if-not-moves_to.false) c.kid_rate-own.ensures.rate
    (walks_whole (g.B.Bank.contents c.args.walker.now.bank.now) c.args.walker.now.tree.now.defs c.args.walker.now.tree.now (chain_of c.args.walker.now.steps.now) c.args.walker.now.rates.now c.args.levels _ c.kid_rate-own.result.0
    c.args.into.now c.push.new.self c.walk_below.new.into
    c.requires.some c.in_ok-push.ensures.pushed c.in_ok-walk_below.ensures.walked)

pub move_one-returns-else-may_go_on-clause-walked : goal.move_one-returns-else-may_go_on-clause-walked
move_one-returns-else-may_go_on-clause-walked g t c =
    moves_walks (g.B.Bank.contents c.args.walker.now.bank.now) c.args.walker.now.tree.now.defs c.args.walker.now.tree.now c.args.walker.now.steps.now c.args.walker.now.rates.now c.args.levels c.args.clock.0 c.args.rate c.args.place c.kid_rate-own.result.0 _
    c.args.into.now c.push.new.self
    c.requires.place (sym c.moves_to.ensures ∙ c.if-not-moves_to.false) c.kid_rate-own.ensures.rate
    (walks_alone (g.B.Bank.contents c.args.walker.now.bank.now) c.args.walker.now.tree.now.defs c.args.walker.now.tree.now (chain_of c.args.walker.now.steps.now) c.args.walker.now.rates.now c.args.levels _ c.kid_rate-own.result.0
    c.args.into.now c.push.new.self
    c.requires.some c.in_ok-push.ensures.pushed (c.may_go_on.ensures c.if-may_go_on.false))

pub stay_one-returns-in_ok-walk_below-clause-walked : goal.stay_one-returns-in_ok-walk_below-clause-walked
stay_one-returns-in_ok-walk_below-clause-walked g t c = λ clock child.
    stays_walks (g.B.Bank.contents c.args.walker.now.bank.now) c.args.walker.now.tree.now.defs c.args.walker.now.tree.now (chain_of c.args.walker.now.steps.now) c.args.walker.now.rates.now c.args.levels clock c.args.rate c.args.child.0 c.kid_rate-own.result.0
    c.args.into.now c.walk_below.new.into
    (sym c.kid_rate-own.ensures.moves ∙ c.if-away.false) child c.kid_rate-own.ensures.rate
    (walks_whole (g.B.Bank.contents c.args.walker.now.bank.now) c.args.walker.now.tree.now.defs c.args.walker.now.tree.now (chain_of c.args.walker.now.steps.now) c.args.walker.now.rates.now c.args.levels c.args.child c.kid_rate-own.result.0
    c.args.into.now c.push.new.self c.walk_below.new.into
    c.requires.some c.in_ok-push.ensures.pushed c.in_ok-walk_below.ensures.walked)

pub stay_one-returns-else-may_go_on-clause-walked : goal.stay_one-returns-else-may_go_on-clause-walked
stay_one-returns-else-may_go_on-clause-walked g t c = λ clock child.
    stays_walks (g.B.Bank.contents c.args.walker.now.bank.now) c.args.walker.now.tree.now.defs c.args.walker.now.tree.now (chain_of c.args.walker.now.steps.now) c.args.walker.now.rates.now c.args.levels clock c.args.rate c.args.child.0 c.kid_rate-own.result.0
    c.args.into.now c.push.new.self
    (sym c.kid_rate-own.ensures.moves ∙ c.if-away.false) child c.kid_rate-own.ensures.rate
    (walks_alone (g.B.Bank.contents c.args.walker.now.bank.now) c.args.walker.now.tree.now.defs c.args.walker.now.tree.now (chain_of c.args.walker.now.steps.now) c.args.walker.now.rates.now c.args.levels c.args.child c.kid_rate-own.result.0
    c.args.into.now c.push.new.self
    c.requires.some c.in_ok-push.ensures.pushed (c.may_go_on.ensures c.if-may_go_on.false))

pub walk_below-returns-then-levels-eq0-clause-walked : goal.walk_below-returns-then-levels-eq0-clause-walked
walk_below-returns-then-levels-eq0-clause-walked g t c =
    walks_no_level (g.B.Bank.contents c.args.walker.now.bank.now) c.args.walker.now.tree.now.defs c.args.walker.now.tree.now (chain_of c.args.walker.now.steps.now) c.args.walker.now.rates.now c.args.levels c.args.clock.0 c.args.rate c.args.into.now c.if-levels-eq0.true

pub walk_below-returns-then-not-walker-clause-walked : goal.walk_below-returns-then-not-walker-clause-walked
walk_below-returns-then-not-walker-clause-walked g t c =
    walks_still (g.B.Bank.contents c.args.walker.now.bank.now) c.args.walker.now.tree.now.defs c.args.walker.now.tree.now (chain_of c.args.walker.now.steps.now) c.args.walker.now.rates.now c.args.levels c.args.clock.0 c.args.rate
    c.args.into.now c.stay_below.new.into (sym c.requires.moving ∙ c.if-not-walker.true) c.in_ok-stay_below.ensures.walked

pub walk_below-returns-clause-walked : goal.walk_below-returns-clause-walked
walk_below-returns-clause-walked g t c =
    on_ok_weaker c.move_below.result
    (walks_below (g.B.Bank.contents c.args.walker.now.bank.now) c.args.walker.now.tree.now.defs c.args.walker.now.tree.now (chain_of c.args.walker.now.steps.now) c.args.walker.now.rates.now c.args.levels c.args.clock.0 c.args.rate
    c.args.into.now c.stay_below.new.into c.move_below.new.into
    c.in_ok-stay_below.ensures.walked) c.move_below.ensures.walked
