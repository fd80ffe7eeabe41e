-- The lines of the words before the next one were gathered, and all lines are these and those of the rest.
use Rattle.std.proofs.Common.{◌≡◌, ◌≤◌, ℕ, List, ◌++◌, drop, is_some}
use Rattle.clk_io.specs.Gathers.{PassesOn}
use Rattle.clk_model.specs.Text.{registers_from, registers_text}
use Rattle.clk_journal.proofs.registers.print_registers.Given as goal

abbrev pub invariant-loop-place : goal.invariant-loop-place
invariant-loop-place g l =
    let written = g.K.Sink.written in
    record {
      printed : (done : List ℕ) × PassesOn (written l.fn.out) (written l.out) l.fn.gathered l.gathered done × (registers_text l.words ≡ done ++ registers_from l.place (drop l.place l.words));
      tells : is_some (written l.out) ≡ is_some (written l.fn.out);
      later : g.K.Sink.faults l.fn.out ≤ g.K.Sink.faults l.out;
    }
