use Rattle.std.proofs.Common.{ap, ◌∙◌}
use Rattle.dts_clocks.specs.Assigned.{clock_at, parent_step}
use Rattle.dts_clocks.proofs.Joins.{joined_start, joined_push}
use Rattle.dts_clocks.proofs.assigned.push_parents.Goals as goal

pub loop-at-init : goal.loop-at-init
loop-at-init c = joined_start _ _

pub loop-at-preserved : goal.loop-at-preserved
loop-at-preserved c =
    let clock = c.clock_at-clock.ensures ∙ ap (λ xs. clock_at xs c.loop-at.at) c.deref.ensures.value in
    let parent = c.clock_at-parent.ensures ∙ ap (λ xs. clock_at xs c.loop-at.at) c.deref-in-loop-at.ensures.value in
    joined_push _ _ _ _ _ c.loop-at.at c.loop-at.invariant (ap (λ o. parent_step o c.clock_at-parent.result) clock ∙ ap (λ o. parent_step (clock_at c.args.lists.now.clocks.items c.loop-at.at) o) parent) c.in_ok-push_parent.ensures
