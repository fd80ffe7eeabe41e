-- The rate of one clock more comes out.
use Rattle.std.proofs.Common.{◌+◌, ◌-◌, refl, ◌∙◌, length}
use Rattle.std.proofs.lemmas.List.{length-set}
use Rattle.rate_planner.proofs.PlanLaws.{outcome_step, first_same}
use Rattle.rate_planner.proofs.outcome.outcome_rates.Goals as goal

pub loop-done-preserved : goal.loop-done-preserved
loop-done-preserved g c = record {
  size = length-set c.loop-done.rates.items (length c.args.steps.now - 1 - c.loop-done.done) c.out_rate-rate.result ∙ c.loop-done.invariant.size;
  rates =
      outcome_step (g.B.Bank.contents c.args.bank.now) c.args.tree.now.defs c.args.tree.now c.args.steps.now c.loop-done.rates.items (length c.args.steps.now) c.loop-done.done (length c.args.steps.now - 1 - c.loop-done.done) _
      c.out_rate-rate.result c.rate_above-above.result c.loop-done-test.true refl c.loop-done.invariant.size refl
      (λ regs kept. c.rate_above-above.ensures regs kept ∙ first_same c.deref.result.now c.loop-done.rates.items (length c.args.steps.now - 1 - c.loop-done.done + 1) _ c.deref.ensures.value)
      c.out_rate-rate.ensures c.loop-done.invariant.rates;
}
