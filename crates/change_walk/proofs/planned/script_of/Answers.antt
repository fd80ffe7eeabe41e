-- The parts of a script are those of the plan.
use Rattle.std.proofs.Common.{◌∙◌, ◌+◌, ◌-◌, ◌^◌, ◌&&◌, ℕ, List, cond, sym, ap, min}
use Rattle.std.specs.Prelude.{flat_map, sum_by}
use Rattle.std.specs.List.{list_any}
use Rattle.clk_base.specs.declared.call.Micro.{Micro}
use Rattle.clk_model.specs.Notices.{is_veto}
use Rattle.clk_model.specs.Script.{is_raise, plls}
use Rattle.change_walk.specs.declared.changes.Changed.{Changed}
use Rattle.change_walk.specs.Steps.{brought_by, changed_by, steps_for, told_by}
use Rattle.change_walk.specs.Tellings.{notifiers_at, tell_before}
use Rattle.change_walk.specs.Weights.{step_weight}
use Rattle.change_walk.proofs.Alike.{steps_alike}
use Rattle.change_walk.proofs.Made.{IsGivenWith, cut_either, cut_once, is_made, told_extra, told_steps, told_vetoed, told_weight}
use Rattle.change_walk.proofs.Plain.{steps_plain}
use Rattle.change_walk.proofs.planned.script_of.Given as given
use Rattle.change_walk.proofs.planned.script_of.Goals as goal

-- what is given with the script
given_here : (g : given.Over) (c : goal.After-list-4-1 g) → IsGivenWith c.args.tree.now.words c.args.tree.now c.args.notifiers.now c.args.plan.now
given_here g c = record {
  stands = c.plls.ensures.stands;
  valid = c.len-size.ensures.valid;
  there = c.requires.there;
  chains = c.len-chains.ensures.kept;
}

-- where no notifier is told, no step visits a clock with one
pub weigh_steps-weight-requires : goal.weigh_steps-weight-requires
weigh_steps-weight-requires g c = λ none.
    steps_plain c.args.notifiers.now c.args.tree.now (g.V.View.means c.args.view.now).prepared c.args.plan.now c.deref-4.result.now c.deref.result.now
    (c.deref-4.ensures.value ∙ c.in_ok-list-inside.ensures.steps)
    (c.deref.ensures.value ∙ c.in_ok-tells.ensures.untold none)
    (sym c.in_ok-tells.ensures.tells ∙ none)

pub returns-clause-made : goal.returns-clause-made
returns-clause-made g c =
    let t = c.args.tree.now in
    let held = (g.V.View.means c.args.view.now).prepared in
    let lists = c.args.notifiers.now in
    let plan = c.args.plan.now in
    let found = c.find_changed.new.changed.items in
    let alike = c.in_ok-tells.ensures.told in
    let most : ℕ = 2 ^ 64 - 1 in
    is_made (given_here g c) held _
    (c.in_ok-list-inside.ensures.steps ∙ ap (steps_for t held lists plan) c.deref.ensures.value ∙ steps_alike t held lists plan found (changed_by t plan) alike)
    (c.in_ok-list-inside.ensures.vetoed ∙ ap (λ (xs : List Changed). list_any is_veto (flat_map (λ x. tell_before x (notifiers_at lists x)) xs)) c.deref.ensures.value ∙ ap (list_any is_veto) alike.before)
    (c.extra_of-list-inside.ensures
    ∙ ap (λ (n : ℕ). cond (plan.set_parent && list_any is_raise c.deref-2.result.now) (min n most) 0) (ap (told_by lists) c.deref-3.ensures.value ∙ alike.count)
    ∙ cut_either (plan.set_parent && list_any is_raise c.deref-2.result.now) (told_by lists (changed_by t plan)) most
    ∙ ap (λ (ms : List Micro). min (brought_by lists plan (changed_by t plan) ms) most) c.deref-2.ensures.value)
    (c.saturating_add-list-inside.ensures
    ∙ ap (λ (n : ℕ). min (n + c.extra_of-list-inside.result) most) c.weigh_steps-weight.ensures
    ∙ cut_once (sum_by (step_weight c.plls.result lists) c.deref-4.result.now) c.extra_of-list-inside.result most
    ∙ ap (λ (k : ℕ). min (sum_by (step_weight k lists) c.deref-4.result.now + c.extra_of-list-inside.result) most) c.plls.ensures.plls
    ∙ ap (λ (ms : List Micro). min (sum_by (step_weight (plls t.defs) lists) ms + c.extra_of-list-inside.result) most) c.deref-4.ensures.value)

pub returns-clause-steps : goal.returns-clause-steps
returns-clause-steps g c = told_steps (given_here g c) (returns-clause-made g c)

pub returns-clause-vetoed : goal.returns-clause-vetoed
returns-clause-vetoed g c = told_vetoed (given_here g c) (returns-clause-made g c)

pub returns-clause-extra : goal.returns-clause-extra
returns-clause-extra g c = told_extra (given_here g c) (returns-clause-made g c)

pub returns-clause-weight : goal.returns-clause-weight
returns-clause-weight g c = told_weight (given_here g c) (returns-clause-made g c)
