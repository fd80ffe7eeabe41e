use Rattle.std.proofs.Common.{◌≡◌, ◌≤◌, ◌-◌, is_some, vec_len}
use Rattle.std.specs.Io.KnownBytes.{Consumes}
use Rattle.clk_io.proofs.reading.read_all.Given as goal

-- what was read so far is what the source has lost, and no more than the limit
abbrev pub invariant-loop-bytes : goal.invariant-loop-bytes
invariant-loop-bytes g l =
    let left = g.S.Source.left in
    record {
      fits : vec_len l.bytes ≤ 16777216;
      taken : Consumes (left l.fn.source) (left l.source) l.bytes.items;
      tells : is_some (left l.source) ≡ is_some (left l.fn.source);
      later : g.S.Source.faults l.fn.source ≤ g.S.Source.faults l.source;
    }

abbrev pub decreases-loop-bytes : goal.decreases-loop-bytes
decreases-loop-bytes g l = 16777216 - vec_len l.bytes
