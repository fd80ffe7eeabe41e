-- The clocks that a change of rate or parent tells.
use Rattle.std.specs.Prelude.{ℕ, ◌==◌, List, not, map, filter, slice_index}
use Rattle.clk_tree.specs.Plans.{ClockRate}
use Rattle.change_walk.specs.Changes.{changed_to}
use Rattle.change_walk.specs.declared.changes.Changed.{Changed}

-- the clocks among these that have notifiers, each with its rate before the change and its planned rate
abbrev pub told_clocks : (ℕ → ℕ) → List ℕ → List ClockRate → List Changed
told_clocks count before rates = map (changed_to (slice_index before)) (filter (λ r. not (count r.clock == 0)) rates)
