-- The weight that is left of a change: how many entries it may still come to.
use Rattle.std.specs.Prelude.{ℕ, ◌+◌, ◌-◌, ◌*◌, length, sum_by}
use Rattle.clk_base.specs.declared.call.Micro.{Micro}
use Rattle.clk_base.specs.declared.call.Micro.TheVariants as micro
use Rattle.clk_model.specs.State.{State, Change}
use Rattle.clk_model.specs.Script.{plls, weight}

-- what a step in front weighs: a poll as often as it may still ask, a fall nothing, a raise 34 less and a lower 1 less each time
-- it has come again, and another as in a script
abbrev pub front_weight : State → Change → Micro → ℕ
front_weight s k (micro.Poll y) = k.polls
front_weight s k (micro.Fall y) = 0
front_weight s k (micro.Raise x) = 34 * plls s.defs + 1 - 34 * k.again
front_weight s k (micro.Lower x) = plls s.defs + 1 - k.again
front_weight s k m = weight s m

-- the weights of the steps to come, the notices that a timeout may still bring, and a fall of each raised PLL
unfoldable pub weight_left : State → Change → ℕ
weight_left s k = sum_by (front_weight s k) k.front + sum_by (weight s) k.left + k.extra + length k.raised
