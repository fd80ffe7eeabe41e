-- The trees of the roots and orphans before the next one were gathered, and all trees are these and those of the rest.
use Rattle.std.proofs.Common.{◌≡◌, ◌<◌, ◌≤◌, ℕ, true, List, ◌++◌, IfSome, drop, length, is_some}
use Rattle.std.specs.Prelude.{slice_get, flat_map}
use Rattle.std.specs.Option.{option_map}
use Rattle.clk_base.specs.Levels.{depth}
use Rattle.clk_io.specs.Gathers.{PassesOn}
use Rattle.clk_machine.specs.Run.{now_of}
use Rattle.clk_model.specs.Summary.{lines_within}
use Rattle.clk_summary.specs.Rows.{tops}
use Rattle.clk_summary.proofs.Lined.{Lined}
use Rattle.clk_summary.proofs.table.print_tops.Given as goal

abbrev pub invariant-loop-place : goal.invariant-loop-place
invariant-loop-place g l =
    let written = g.K.Sink.written in
    record {
      inside : IfSome l.at (λ c. c.0 < length l.core.start.defs);
      along : l.core.told ≡ true → option_map (λ c. c.0) l.at ≡ slice_get (tops (now_of l.core)) l.place;
      printed : l.core.told ≡ true → (done : List ℕ) × PassesOn (written l.fn.out) (written l.out) l.fn.gathered l.gathered done
          × (flat_map (lines_within depth (now_of l.core) 0) (tops (now_of l.core)) ≡ done ++ flat_map (lines_within depth (now_of l.core) 0) (drop l.place (tops (now_of l.core))));
      lines : Lined l.core (written l.fn.out) (written l.out) l.fn.gathered l.gathered;
      tells : is_some (written l.out) ≡ is_some (written l.fn.out);
      later : g.K.Sink.faults l.fn.out ≤ g.K.Sink.faults l.out;
    }
