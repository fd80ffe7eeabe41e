-- The lines of the answers before the next one were gathered, and all lines are these and those of the rest.
use Rattle.std.proofs.Common.{◌≡◌, ◌≤◌, ◌+◌, ℕ, List, ◌++◌, drop, is_some}
use Rattle.clk_io.specs.Gathers.{PassesOn}
use Rattle.clk_model.specs.Text.{answers_from, answers_text}
use Rattle.clk_journal.proofs.answers.print_answers.Given as goal

abbrev pub invariant-loop-index : goal.invariant-loop-index
invariant-loop-index g l =
    let written = g.K.Sink.written in
    record {
      printed : (done : List ℕ) × PassesOn (written l.fn.out) (written l.out) l.fn.gathered l.gathered done × (answers_text l.desc.defs l.driver l.answers ≡ done ++ answers_from l.desc.defs l.driver (l.index + 1) (drop l.index l.answers));
      tells : is_some (written l.out) ≡ is_some (written l.fn.out);
      later : g.K.Sink.faults l.fn.out ≤ g.K.Sink.faults l.out;
    }
