-- The lines of the entries before the next one were gathered, and all lines are these and those of the rest.
use Rattle.std.proofs.Common.{◌≡◌, ◌≤◌, ◌+◌, ℕ, List, ◌++◌, drop, is_some, map, string_bytes}
use Rattle.clk_io.specs.Gathers.{PassesOn}
use Rattle.clk_model.specs.Text.{entries_from, journal_text}
use Rattle.clk_journal.proofs.entries.print_entries.Given as goal

abbrev pub invariant-loop-index : goal.invariant-loop-index
invariant-loop-index g l =
    let written = g.K.Sink.written in
    record {
      printed : (done : List ℕ) × PassesOn (written l.fn.out) (written l.out) l.fn.gathered l.gathered done × (journal_text l.desc.defs (map string_bytes l.names) l.entries ≡ done ++ entries_from l.desc.defs (map string_bytes l.names) (l.index + 1) (drop l.index l.entries));
      tells : is_some (written l.out) ≡ is_some (written l.fn.out);
      later : g.K.Sink.faults l.fn.out ≤ g.K.Sink.faults l.out;
    }
