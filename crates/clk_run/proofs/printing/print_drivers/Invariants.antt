use Rattle.std.proofs.Common.{◌≡◌, ◌≤◌, ◌++◌, ℕ, List, drop, map, is_some}
use Rattle.clk_io.specs.Gathers.{PassesOn}
use Rattle.clk_model.specs.Text.{all_answers_text}
use Rattle.clk_run.proofs.printing.print_drivers.Given as goal

-- the answers of the drivers so far were gathered
abbrev pub invariant-loop-index : goal.invariant-loop-index
invariant-loop-index g l =
    let written = g.K.Sink.written in
    record {
      printed : (done : List ℕ) × PassesOn (written l.fn.out) (written l.out) l.fn.gathered l.gathered done
          × (all_answers_text l.desc.defs (map (λ s. s.name) l.drivers) l.answers ≡ done ++ all_answers_text l.desc.defs (map (λ s. s.name) (drop l.index l.drivers)) (drop l.index l.answers));
      tells : is_some (written l.out) ≡ is_some (written l.fn.out);
      later : g.K.Sink.faults l.fn.out ≤ g.K.Sink.faults l.out;
    }
