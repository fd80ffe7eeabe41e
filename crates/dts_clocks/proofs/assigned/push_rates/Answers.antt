use Rattle.std.proofs.Common.{ap, ◌∙◌, arith, Some, sym, refl, length}
use Rattle.std.proofs.lemmas.Option.{slice_get_read}
use Rattle.dts_clocks.specs.Assigned.{clock_at, rate_step}
use Rattle.dts_clocks.proofs.Joins.{joined_start, joined_push}
use Rattle.dts_clocks.proofs.assigned.push_rates.Goals as goal

pub loop-at-init : goal.loop-at-init
loop-at-init c = joined_start _ _

pub loop-at-preserved : goal.loop-at-preserved
loop-at-preserved c =
    let clock = c.clock_at-clock.ensures ∙ ap (λ xs. clock_at xs c.loop-at.at) c.deref.ensures.value in
    let rate = sym (slice_get_read c.args.lists.now.rates.items (length c.args.lists.now.rates.items) c.loop-at.at c.index.result.now refl (omega (arith, c.args.lists.now.rates.ok.0)) c.index.ensures) in
    joined_push _ _ _ _ _ c.loop-at.at c.loop-at.invariant (ap (λ o. rate_step o (Some c.index.result.now)) clock ∙ ap (λ o. rate_step (clock_at c.args.lists.now.clocks.items c.loop-at.at) o) rate) c.in_ok-push_rate.ensures
