use Rattle.std.proofs.Common.{◌∙◌, sym, ap, subst}
use Rattle.rate_planner.specs.declared.planning.Planning.{Planning}
use Rattle.change_walk.specs.Steps.{IsMadeOf}
use Rattle.clk_tree.specs.Plans.{AreThere}
use Rattle.core_parts.specs.Planned.{IsAnswer}
use Rattle.core_parts.specs.Decisions.{Change}
use Rattle.core_parts.proofs.Deciding.{answers_at_once, answers_no_plan, answers_planned}
use Rattle.core_parts.proofs.Shapes.{registered_lies}
use Rattle.core_parts.proofs.Taking.{first_given}
use Rattle.core_parts.proofs.planning.decide_unguarded.Goals as goal

pub rate-requires : goal.rate-requires
rate-requires g c =
    let tree = c.args.tree.now in
    record { place = registered_lies tree.defs tree.clocks tree.order tree.rates c.args.clock.0 c.requires.tied.stands c.requires.there }

pub returns-then-leaves_rate-clause-decides : goal.returns-then-leaves_rate-clause-decides
returns-then-leaves_rate-clause-decides g c = λ new lifted on its free.
    answers_at_once on c.requires.tied (g.V.View.means c.args.view.now) lifted c.args.clock.0 c.args.wanted free
    (first_given c.args.window.now.words c.args.tree.now.defs c.args.tree.now (g.V.View.means c.args.view.now) c.args.clock.0 c.args.wanted c.rate.result c.first_seen-first.result _
    c.requires.there c.rate.ensures.rate c.requires.tied.kept (sym c.if-leaves_rate.true ∙ c.leaves_rate.ensures) c.first_seen-first.ensures.rounding)

pub returns-then-not-branch-clause-decides : goal.returns-then-not-branch-clause-decides
returns-then-not-branch-clause-decides g c = λ new lifted on its free.
    answers_no_plan on c.requires.tied (g.V.View.means c.args.view.now) lifted c.args.clock.0 c.args.wanted free
    (first_given c.args.window.now.words c.args.tree.now.defs c.args.tree.now (g.V.View.means c.args.view.now) c.args.clock.0 c.args.wanted c.rate.result c.first_seen-first.result _
    c.requires.there c.rate.ensures.rate c.requires.tied.kept (sym c.if-leaves_rate.false ∙ c.leaves_rate.ensures) c.first_seen-first.ensures.rounding)
    (rw c.if-not-branch.true at c.in_ok-plan_seen.ensures.chain)

pub returns-clause-decides : goal.returns-clause-decides
returns-clause-decides g c = λ new lifted on its free.
    let plan = c.plan_seen.new.draft.planning.plan in
    let script = c.write_script.new.draft.script in
    subst (λ (p : Planning). IsAnswer new lifted c.args.clock.0 c.args.wanted (Change p.plan script)) (sym c.write_script.ensures.plan)
    (answers_planned on c.requires.tied (g.V.View.means c.args.view.now) lifted c.args.clock.0 c.args.wanted free c.args.notifiers.now plan script its
    (first_given c.args.window.now.words c.args.tree.now.defs c.args.tree.now (g.V.View.means c.args.view.now) c.args.clock.0 c.args.wanted c.rate.result c.first_seen-first.result _
    c.requires.there c.rate.ensures.rate c.requires.tied.kept (sym c.if-leaves_rate.false ∙ c.leaves_rate.ensures) c.first_seen-first.ensures.rounding)
    (rw c.if-not-branch.false at c.in_ok-plan_seen.ensures.chain) (c.in_ok-plan_seen.ensures.rates c.if-not-branch.false) c.in_ok-plan_seen.ensures.set_parent c.in_ok-write_script.ensures.script)

pub returns-clause-there : goal.returns-clause-there
returns-clause-there g c = record {
  set_parent = ap (λ (p : Planning). p.plan.set_parent) c.write_script.ensures.plan ∙ c.in_ok-plan_seen.ensures.set_parent;
  there = subst (λ (p : Planning). AreThere c.args.tree.now.clocks p.plan.rates) (sym c.write_script.ensures.plan) (c.in_ok-plan_seen.ensures.there c.if-not-branch.false);
  made = subst (λ (p : Planning). IsMadeOf c.args.tree.now (g.V.View.means c.args.view.now).prepared c.args.notifiers.now p.plan c.write_script.new.draft.script) (sym c.write_script.ensures.plan) c.in_ok-write_script.ensures.made;
}
