-- Notifier by notifier.
use Rattle.std.proofs.Common.{◌∙◌, ◌++◌, ◌∷◌, [], ap}
use Rattle.clk_base.specs.declared.call.Micro.{Micro}
use Rattle.clk_base.specs.declared.call.Notice.TheVariants as notice
use Rattle.notifiers.specs.declared.notifier.Notifier.{Notifier}
use Rattle.change_walk.specs.Tellings.{notify}
use Rattle.change_walk.proofs.Rests.{pushed_on}
use Rattle.change_walk.proofs.notices.tell_off.Goals as goal

pub loop-place-preserved : goal.loop-place-preserved
loop-place-preserved c =
    pushed_on (λ (n : Notifier). notify notice.Abort c.args.changed n.id) c.args.chain.now c.loop-place.place c.notifier_at-notifier.result c.loop-place.steps.items c.push.new.self.items _
    c.notifier_at-notifier.ensures (c.in_ok-push.ensures.items ∙ ap (λ (m : Micro). c.loop-place.steps.items ++ m ∷ []) c.notify.ensures) c.loop-place.invariant
