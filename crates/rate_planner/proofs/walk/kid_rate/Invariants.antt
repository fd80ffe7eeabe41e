-- The rate over the upper steps, and whether one of them moves the clock.
use Rattle.std.proofs.Common.{◌≡◌, ◌-◌, drop}
use Rattle.std.specs.Option.{option_map_or}
use Rattle.clk_base.specs.Description.{kind_of}
use Rattle.reg_bank.specs.Registers.{Registers}
use Rattle.clk_model.specs.Rate.{rate_over}
use Rattle.clk_model.specs.Walk.{moves_away}
use Rattle.clk_tree.specs.Plans.{chain_of}
use Rattle.rate_planner.specs.Walks.{kid_rate}
use Rattle.rate_planner.proofs.walk.kid_rate.Given as goal

abbrev pub invariant-loop-done : goal.invariant-loop-done
invariant-loop-done g l = record {
  own : (regs : Registers) → option_map_or (λ r. r) l.own (rate_over (kind_of l.walker.tree.now.defs l.clock.0) regs l.parent)
      ≡ kid_rate l.walker.tree.now.defs regs (drop (l.count - l.done) (chain_of l.walker.steps.now)) (drop (l.count - l.done) l.walker.rates.now) l.clock.0 l.parent;
  away : l.away ≡ moves_away l.walker.tree.now.clocks (drop (l.count - l.done) (chain_of l.walker.steps.now)) l.clock.0;
}
