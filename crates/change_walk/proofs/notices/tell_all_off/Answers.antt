-- Clock by clock.
use Rattle.std.proofs.Common.{◌∙◌, ◌++◌, ap}
use Rattle.change_walk.specs.Tellings.{notifiers_at, tell_off}
use Rattle.change_walk.proofs.Rests.{added_on}
use Rattle.change_walk.proofs.notices.tell_all_off.Goals as goal

pub loop-place-preserved : goal.loop-place-preserved
loop-place-preserved c =
    added_on (λ x. tell_off x (notifiers_at c.args.notifiers.now x)) c.args.changed.now c.loop-place.place c.changed_at-one.result c.loop-place.steps.items c.tell_off.new.steps.items _
    c.changed_at-one.ensures (c.in_ok-tell_off.ensures ∙ ap (λ ns. c.loop-place.steps.items ++ tell_off c.changed_at-one.result ns) c.chain.ensures.chain) c.loop-place.invariant
