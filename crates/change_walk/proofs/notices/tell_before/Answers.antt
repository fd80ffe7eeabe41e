-- Notifier by notifier.
use Rattle.std.proofs.Common.{◌∙◌, ◌++◌, ◌∷◌, [], ap}
use Rattle.clk_base.specs.declared.call.Micro.{Micro}
use Rattle.change_walk.proofs.Telling.{before_on, before_stops, veto_on, veto_stops}
use Rattle.change_walk.proofs.notices.tell_before.Goals as goal

pub returns-then-veto-clause-told : goal.returns-then-veto-clause-told
returns-then-veto-clause-told c =
    before_stops c.args.changed c.args.chain.now c.loop-place.place c.notifier_at-notifier.result c.vetoes-veto.result c.loop-place.steps.items c.push.new.self.items _
    c.notifier_at-notifier.ensures c.vetoes-veto.ensures c.if-veto.true (c.in_ok-push.ensures.items ∙ ap (λ (m : Micro). c.loop-place.steps.items ++ m ∷ []) c.notify.ensures) c.loop-place.invariant.told

pub returns-then-veto-clause-vetoed : goal.returns-then-veto-clause-vetoed
returns-then-veto-clause-vetoed c =
    veto_stops c.args.changed c.args.chain.now c.loop-place.place c.notifier_at-notifier.result c.vetoes-veto.result _
    c.notifier_at-notifier.ensures c.vetoes-veto.ensures c.if-veto.true c.loop-place.invariant.vetoed

pub loop-place-preserved : goal.loop-place-preserved
loop-place-preserved c = record {
  told =
      before_on c.args.changed c.args.chain.now c.loop-place.place c.notifier_at-notifier.result c.vetoes-veto.result c.loop-place.steps.items c.push.new.self.items _
      c.notifier_at-notifier.ensures c.vetoes-veto.ensures c.if-veto.false (c.in_ok-push.ensures.items ∙ ap (λ (m : Micro). c.loop-place.steps.items ++ m ∷ []) c.notify.ensures) c.loop-place.invariant.told;
  vetoed =
      veto_on c.args.changed c.args.chain.now c.loop-place.place c.notifier_at-notifier.result c.vetoes-veto.result _
      c.notifier_at-notifier.ensures c.vetoes-veto.ensures c.if-veto.false c.loop-place.invariant.vetoed;
}
