-- The line of the clock and the trees of its children before the next one were gathered, and all is these and the trees of the rest.
use Rattle.std.proofs.Common.{◌≡◌, ◌<◌, ◌≤◌, ◌+◌, ◌-◌, ℕ, true, List, ◌++◌, IfSome, drop, length, is_some}
use Rattle.std.specs.Prelude.{slice_get, flat_map}
use Rattle.std.specs.Option.{option_map}
use Rattle.clk_base.specs.Levels.{depth}
use Rattle.clk_io.specs.Gathers.{PassesOn}
use Rattle.clk_machine.specs.Run.{now_of}
use Rattle.clk_model.specs.State.{registered}
use Rattle.clk_model.specs.Summary.{lines_within}
use Rattle.clk_model.specs.Tree.{children}
use Rattle.clk_summary.proofs.Lined.{Lined}
use Rattle.clk_summary.proofs.table.+print_tree.Given as goal

abbrev pub decreases-print_tree : goal.decreases-print_tree
decreases-print_tree g l = depth - l.level

abbrev pub invariant-loop-place : goal.invariant-loop-place
invariant-loop-place g l =
    let written = g.K.Sink.written in
    let s = now_of l.core in
    let kids = children s.order s.clocks l.fn.clock.0 in
    record {
      inside : IfSome l.at (λ c. c.0 < length l.core.start.defs);
      along : l.core.told ≡ true → option_map (λ c. c.0) l.at ≡ slice_get kids l._place;
      printed : l.core.told ≡ true → registered s.clocks l.fn.clock.0 ≡ true → (done : List ℕ) × PassesOn (written l.fn.out) (written l.out) l.fn.gathered l.gathered done
          × (lines_within (depth - l.level) s l.level l.fn.clock.0 ≡ done ++ flat_map (lines_within (depth - (l.level + 1)) s (l.level + 1)) (drop l._place kids));
      lines : Lined l.core (written l.fn.out) (written l.out) l.fn.gathered l.gathered;
      tells : is_some (written l.out) ≡ is_some (written l.fn.out);
      later : g.K.Sink.faults l.fn.out ≤ g.K.Sink.faults l.out;
    }
