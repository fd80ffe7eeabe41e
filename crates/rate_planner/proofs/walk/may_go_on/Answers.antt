-- Where nothing moves, a clock without children has nothing below it.
use Rattle.std.proofs.Common.{sym, ◌∙◌}
use Rattle.clk_tree.specs.Plans.{chain_of}
use Rattle.rate_planner.proofs.Walking.{none_after}
use Rattle.rate_planner.proofs.walk.may_go_on.Goals as goal

pub returns-else-walker : goal.returns-else-walker
returns-else-walker g c = λ none.
    none_after c.args.walker.now.tree.now.order c.args.walker.now.tree.now.clocks (chain_of c.args.walker.now.steps.now) c.args.clock.0 c.first_child.result
    (sym c.requires.moving ∙ c.if-walker.false) c.first_child.ensures.first (sym c.is_some.ensures ∙ none)
