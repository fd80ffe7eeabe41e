use Rattle.std.proofs.Common.{◌≡◌, drop}
use Rattle.clk_tree.specs.Plans.{chain_of}
use Rattle.core_parts.specs.Movable.{can_go_along}
use Rattle.core_parts.proofs.movable.can_go_along.Given as goal

-- whether all can be made is up to those that are left
abbrev pub invariant-loop-place : goal.invariant-loop-place
invariant-loop-place l =
    can_go_along l.sets_parent l.tree.defs l.tree.clocks (chain_of l.chain)
    ≡ can_go_along l.sets_parent l.tree.defs l.tree.clocks (drop l.place (chain_of l.chain))
