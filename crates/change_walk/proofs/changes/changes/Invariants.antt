-- What was found with what is found from here on makes the whole.
use Rattle.std.proofs.Common.{◌≡◌, ◌++◌, [], drop, reverse}
use Rattle.std.specs.Prelude.{slice_index}
use Rattle.clk_tree.specs.Plans.{chain_of, rates_of}
use Rattle.change_walk.specs.Changes.{changed_along, parent_after}
use Rattle.change_walk.proofs.changes.changes.Given as goal

abbrev pub invariant-loop-place : goal.invariant-loop-place
invariant-loop-place l =
    l.changed.items ++ changed_along (parent_after l.tree.clocks (chain_of l.chain)) (slice_index l.tree.rates) (reverse l.passed.items) (drop l.place (rates_of l.rates))
    ≡ changed_along (parent_after l.tree.clocks (chain_of l.chain)) (slice_index l.tree.rates) [] (rates_of l.rates)
