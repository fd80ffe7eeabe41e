-- Where no clock of the walk has a notifier, none is told.
use Rattle.std.proofs.Common.{◌∙◌, List, [], ap, sym, subst}
use Rattle.std.specs.Prelude.{slice_index}
use Rattle.std.specs.List.{list_any}
use Rattle.clk_tree.specs.Plans.{ClockRate, rates_of}
use Rattle.change_walk.specs.declared.changes.Changed.{Changed}
use Rattle.change_walk.specs.Changes.{changed_along, parent_after}
use Rattle.change_walk.specs.Steps.{IsToldAs}
use Rattle.change_walk.specs.Tellings.{has_notifiers}
use Rattle.change_walk.proofs.Alike.{none_told, walked_tell}
use Rattle.change_walk.proofs.planned.find_changed.Goals as goal

pub returns-in_ok-changes-clause-tells : goal.returns-in_ok-changes-clause-tells
returns-in_ok-changes-clause-tells c =
    sym c.if-has_notifiers.true ∙ c.has_notifiers.ensures ∙ walked_tell c.args.notifiers.now c.as_slice-rates.result.now
    ∙ ap (list_any (λ (r : ClockRate). has_notifiers c.args.notifiers.now r.clock)) c.as_slice-rates.ensures

pub returns-else-has_notifiers-clause-told : goal.returns-else-has_notifiers-clause-told
returns-else-has_notifiers-clause-told c =
    let lists = c.args.notifiers.now in
    let up = parent_after c.args.tree.now.clocks c.args.plan.now.chain in
    let before = slice_index c.args.tree.now.rates in
    subst (λ (rs : List ClockRate). IsToldAs lists c.clear.new.self.items (changed_along up before [] rs)) c.as_slice-rates.ensures
    (subst (λ (xs : List Changed). IsToldAs lists xs (changed_along up before [] (rates_of c.as_slice-rates.result.now))) (sym c.clear.ensures.items)
    (none_told lists up before c.as_slice-rates.result.now (sym c.has_notifiers.ensures ∙ c.if-has_notifiers.false)))

pub returns-else-has_notifiers-clause-tells : goal.returns-else-has_notifiers-clause-tells
returns-else-has_notifiers-clause-tells c =
    sym c.if-has_notifiers.false ∙ c.has_notifiers.ensures ∙ walked_tell c.args.notifiers.now c.as_slice-rates.result.now
    ∙ ap (list_any (λ (r : ClockRate). has_notifiers c.args.notifiers.now r.clock)) c.as_slice-rates.ensures
