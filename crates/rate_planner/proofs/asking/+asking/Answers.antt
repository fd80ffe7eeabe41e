-- What is left of the candidates falls, and the answers are those of the definitions.
use Rattle.std.proofs.Common.{◌<◌, ◌≤◌, ◌*◌, sym, subst, arith, refl, get_or, None, Some}
use Rattle.std.specs.Option.{option_map}
use Rattle.kind_math.specs.Dividers.{valid_divisors}
use Rattle.clk_model.specs.Round as round
use Rattle.rate_planner.specs.Given.{after_divisors}
use Rattle.rate_planner.specs.Rounded.{rounded_of}
use Rattle.rate_planner.specs.Kept.{wired}
use Rattle.rate_planner.proofs.DivisorChoice.{round_divides}
use Rattle.rate_planner.proofs.Best.{divisors_begin, divisor_step, divisors_above, candidate_step, rate_level}
use Rattle.rate_planner.proofs.asking.+asking.Goals as goal

pub best_divisor-loop-field-init : goal.best_divisor-loop-field-init
best_divisor-loop-field-init g t c = record {
  names = tt;
  left = λ regs kept.
      divisors_begin (round.rate_for c.args.levels (wired c.args.tree.now.defs regs c.args.tree.now) (g.V.View.means c.args.view.now)) (wired c.args.tree.now.defs regs c.args.tree.now)
      c.args.clock.0 c.args.x c.args.style c.args.width c.first_field-field.result c.end_of_fields-field-end.result c.first_field-field.ensures c.end_of_fields-field-end.ensures;
}

pub best_divisor-returns-in_default-clause-rounding :
    goal.best_divisor-returns-in_default-clause-rounding
best_divisor-returns-in_default-clause-rounding g t c = λ regs kept.
    let over : 18446744073709551616 ≤ c.args.x * c.divisor_of-divisor.result = let wraps = c.in_default.ensures in omega arith in
    divisors_above (round.rate_for c.args.levels (wired c.args.tree.now.defs regs c.args.tree.now) (g.V.View.means c.args.view.now)) (wired c.args.tree.now.defs regs c.args.tree.now)
    c.args.clock.0 c.args.x (option_map rounded_of c.loop-field.best)
    (after_divisors (round.rate_for c.args.levels (wired c.args.tree.now.defs regs c.args.tree.now) (g.V.View.means c.args.view.now)) (wired c.args.tree.now.defs regs c.args.tree.now) c.args.clock.0 c.args.x None (valid_divisors c.args.style c.args.width))
    c.args.style c.loop-field.field c.end_of_fields-field-end.result c.divisor_of-divisor.result c.divisor_of-divisor.ensures.value (omega arith) (c.loop-field.invariant.left regs kept)

pub best_divisor-loop-field-preserved : goal.best_divisor-loop-field-preserved
best_divisor-loop-field-preserved g t c =
    let told = c.in-Some.ensures in
    record {
      names = c.better-best.ensures.names c.args.tree.now.clocks c.loop-field.invariant.names c.over_divisor-tried.ensures.names;
      left = λ regs kept.
          divisor_step (round.rate_for c.args.levels (wired c.args.tree.now.defs regs c.args.tree.now) (g.V.View.means c.args.view.now)) (wired c.args.tree.now.defs regs c.args.tree.now)
          c.args.clock.0 c.args.x (option_map rounded_of c.loop-field.best) (option_map rounded_of c.over_divisor-tried.result) (option_map rounded_of c.better-best.result)
          (after_divisors (round.rate_for c.args.levels (wired c.args.tree.now.defs regs c.args.tree.now) (g.V.View.means c.args.view.now)) (wired c.args.tree.now.defs regs c.args.tree.now) c.args.clock.0 c.args.x None (valid_divisors c.args.style c.args.width))
          c.args.style c.loop-field.field c.end_of_fields-field-end.result c.in-Some.product c.divisor_of-divisor.result
          c.loop-field-test.true c.divisor_of-divisor.ensures.value told.1 (omega (arith, told.0, told.1)) (c.over_divisor-tried.ensures.rounding regs kept) c.better-best.ensures.choice
          (c.loop-field.invariant.left regs kept);
    }

pub by_candidate-loop-candidate-preserved : goal.by_candidate-loop-candidate-preserved
by_candidate-loop-candidate-preserved g t c = record {
  names = c.better-best.ensures.names c.args.tree.now.clocks c.loop-candidate.invariant.names c.over_candidate-tried.ensures.names;
  left = λ regs kept.
      candidate_step (round.rate_for c.args.levels (wired c.args.tree.now.defs regs c.args.tree.now) (g.V.View.means c.args.view.now)) (wired c.args.tree.now.defs regs c.args.tree.now)
      c.args.clock.0 c.args.x (option_map rounded_of c.loop-candidate.best) (option_map rounded_of c.over_candidate-tried.result) (option_map rounded_of c.better-best.result)
      (round.by_candidate (round.rate_for c.args.levels (wired c.args.tree.now.defs regs c.args.tree.now) (g.V.View.means c.args.view.now)) (wired c.args.tree.now.defs regs c.args.tree.now) c.args.clock.0 c.args.x)
      c.as_slice-candidate-items.result.now c.loop-candidate.candidate-index
      (get_or c.as_slice-candidate-items.result.now c.loop-candidate.candidate-index (record { 0 = 0 })) (record { 0 = 0 })
      c.loop-candidate-test.true refl (c.over_candidate-tried.ensures.rounding regs kept) c.better-best.ensures.choice (c.loop-candidate.invariant.left regs kept);
}

pub by_divider-quotient_up-requires : goal.by_divider-quotient_up-requires
by_divider-quotient_up-requires g t c = subst (λ n. 0 < n) (sym c.div_round-divisor.ensures) (round_divides c.args.style c.parent_rate_now-parent.result c.args.x c.args.width c.requires.right)

pub rate_for-returns-in-Some : goal.rate_for-returns-in-Some
rate_for-returns-in-Some g t c = λ regs kept.
    rate_level c.args.levels (wired c.args.tree.now.defs regs c.args.tree.now) (g.V.View.means c.args.view.now) c.args.clock.0 c.args.x (Some (rounded_of c.in-Some.rounded))
    (let some = c.if-levels-eq0.false in omega arith) (c.in-Some.ensures.rounding regs kept)

pub rate_for-returns-in-None : goal.rate_for-returns-in-None
rate_for-returns-in-None g t c = λ regs kept.
    rate_level c.args.levels (wired c.args.tree.now.defs regs c.args.tree.now) (g.V.View.means c.args.view.now) c.args.clock.0 c.args.x None
    (let some = c.if-levels-eq0.false in omega arith) (c.in-None.ensures.rounding regs kept)
