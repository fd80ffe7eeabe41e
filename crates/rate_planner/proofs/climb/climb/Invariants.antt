-- The steps so far, and the chain that is left.
use Rattle.std.proofs.Common.{◌≡◌, ◌-◌, ◌++◌, true}
use Rattle.std.specs.Prelude.{option_map}
use Rattle.clk_model.specs.Chain.{chain_within}
use Rattle.clk_model.specs.Round.{round}
use Rattle.clk_model.specs.State.{registered}
use Rattle.rate_planner.specs.Chains.{AllThere}
use Rattle.rate_planner.specs.Kept.{Always}
use Rattle.rate_planner.specs.Rounded.{rounded_of, NamesRegistered}
use Rattle.rate_planner.proofs.climb.climb.Given as goal

abbrev pub invariant-loop-level : goal.invariant-loop-level
invariant-loop-level g l = record {
  at : registered l.tree.clocks l.at.0 ≡ true;
  there : AllThere l.tree.clocks l.steps;
  names : NamesRegistered l.tree.clocks l.rounded;
  rounding : Always l.tree.defs l.tree (λ w.
      option_map rounded_of l.fn.first ≡ round w (g.V.View.means l.view) l.fn.clock.0 l.fn.x → option_map rounded_of l.rounded ≡ round w (g.V.View.means l.view) l.at.0 l.request);
  left : Always l.tree.defs l.tree (λ w. option_map rounded_of l.fn.first ≡ round w (g.V.View.means l.view) l.fn.clock.0 l.fn.x
      → option_map (λ ks. l.steps ++ ks) (chain_within (l._level-end - l._level) w (g.V.View.means l.view) l.at.0 l.request)
      ≡ chain_within l._level-end w (g.V.View.means l.view) l.fn.clock.0 l.fn.x);
}
