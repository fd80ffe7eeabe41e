-- Clock by clock.
use Rattle.std.proofs.Common.{◌∙◌, ◌++◌, ap}
use Rattle.std.specs.List.{list_any}
use Rattle.clk_model.specs.Notices.{is_veto}
use Rattle.change_walk.specs.Tellings.{notifiers_at, tell_before}
use Rattle.change_walk.proofs.Rests.{added_on}
use Rattle.change_walk.proofs.Telling.{vetoed_on}
use Rattle.change_walk.proofs.notices.tell_all_before.Goals as goal

pub loop-place-preserved : goal.loop-place-preserved
loop-place-preserved c = record {
  told =
      added_on (λ x. tell_before x (notifiers_at c.args.notifiers.now x)) c.args.changed.now c.loop-place.place c.changed_at-one.result c.loop-place.steps.items c.tell_before.new.steps.items _
      c.changed_at-one.ensures (c.in_ok-veto.ensures.told ∙ ap (λ ns. c.loop-place.steps.items ++ tell_before c.changed_at-one.result ns) c.chain.ensures.chain) c.loop-place.invariant.told;
  vetoed =
      vetoed_on (λ x. tell_before x (notifiers_at c.args.notifiers.now x)) c.args.changed.now c.loop-place.place c.changed_at-one.result c.loop-place.vetoed c.either-vetoed.result c.in_ok-veto.veto _
      c.changed_at-one.ensures c.either-vetoed.ensures (c.in_ok-veto.ensures.vetoed ∙ ap (λ ns. list_any is_veto (tell_before c.changed_at-one.result ns)) c.chain.ensures.chain) c.loop-place.invariant.vetoed;
}
