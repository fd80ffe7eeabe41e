-- What is left of a clock's candidates, and how far the levels reach.
use Rattle.std.proofs.Common.{◌≡◌, ◌+◌, ◌*◌, drop}
use Rattle.std.specs.Option.{option_map}
use Rattle.clk_base.specs.Places.{places}
use Rattle.clk_model.specs.Round.{by_candidate, rate_for}
use Rattle.kind_math.specs.Dividers.{valid_divisors}
use Rattle.rate_planner.specs.Divisors.{divisors_from}
use Rattle.rate_planner.specs.Given.{after_divisors, after_candidates}
use Rattle.rate_planner.specs.Rounded.{rounded_of, NamesRegistered}
use Rattle.rate_planner.specs.Kept.{Always}
use Rattle.std.specs.Prelude.{None}
use Rattle.rate_planner.proofs.asking.+asking.Given as goal

abbrev pub decreases-rate_for : goal.decreases-rate_for
decreases-rate_for g l = 8 * l.levels

abbrev pub decreases-over_link : goal.decreases-over_link
decreases-over_link g l = 8 * l.levels + 1

abbrev pub decreases-over_candidate : goal.decreases-over_candidate
decreases-over_candidate g l = 8 * l.levels + 1

abbrev pub decreases-over_divisor : goal.decreases-over_divisor
decreases-over_divisor g l = 8 * l.levels + 2

abbrev pub decreases-best_divisor : goal.decreases-best_divisor
decreases-best_divisor g l = 8 * l.levels + 3

abbrev pub decreases-by_candidate : goal.decreases-by_candidate
decreases-by_candidate g l = 8 * l.levels + 3

abbrev pub decreases-by_divisor : goal.decreases-by_divisor
decreases-by_divisor g l = 8 * l.levels + 4

abbrev pub decreases-by_divider : goal.decreases-by_divider
decreases-by_divider g l = 8 * l.levels + 5

abbrev pub decreases-by_factor : goal.decreases-by_factor
decreases-by_factor g l = 8 * l.levels + 5

abbrev pub decreases-by_mux : goal.decreases-by_mux
decreases-by_mux g l = 8 * l.levels + 5

abbrev pub decreases-by_kind : goal.decreases-by_kind
decreases-by_kind g l = 8 * l.levels + 6

abbrev pub decreases-round_by : goal.decreases-round_by
decreases-round_by g l = 8 * l.levels + 7

abbrev pub invariant-best_divisor-loop-field : goal.invariant-best_divisor-loop-field
invariant-best_divisor-loop-field g l = record {
  names : NamesRegistered l.tree.clocks l.best;
  left : Always l.tree.defs l.tree (λ w.
      after_divisors (rate_for l.levels w (g.V.View.means l.view)) w l.clock.0 l.x (option_map rounded_of l.best) (divisors_from l.style l.field l.field-end)
      ≡ after_divisors (rate_for l.levels w (g.V.View.means l.view)) w l.clock.0 l.x None (valid_divisors l.style l.width));
}

abbrev pub invariant-by_candidate-loop-candidate : goal.invariant-by_candidate-loop-candidate
invariant-by_candidate-loop-candidate g l = record {
  names : NamesRegistered l.tree.clocks l.best;
  left : Always l.tree.defs l.tree (λ w.
      after_candidates (rate_for l.levels w (g.V.View.means l.view)) w l.clock.0 l.x (option_map rounded_of l.best) (drop l.candidate-index (places l.candidate-items))
      ≡ by_candidate (rate_for l.levels w (g.V.View.means l.view)) w l.clock.0 l.x);
}
