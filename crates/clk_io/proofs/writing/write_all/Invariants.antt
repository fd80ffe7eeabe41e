use Rattle.std.proofs.Common.{◌≡◌, ◌≤◌, ◌-◌, is_some, length, take}
use Rattle.std.specs.Io.KnownBytes.{Appends}
use Rattle.clk_io.proofs.writing.write_all.Given as goal

-- the bytes before this place were appended
abbrev pub invariant-loop-at : goal.invariant-loop-at
invariant-loop-at g l =
    let written = g.K.Sink.written in
    record {
      within : l.at ≤ length l.bytes;
      appended : Appends (written l.fn.sink) (written l.sink) (take l.at l.bytes);
      tells : is_some (written l.sink) ≡ is_some (written l.fn.sink);
      later : g.K.Sink.faults l.fn.sink ≤ g.K.Sink.faults l.sink;
    }

abbrev pub decreases-loop-at : goal.decreases-loop-at
decreases-loop-at g l = length l.bytes - l.at
