use Rattle.std.proofs.Common.{◌≡◌, length}
use Rattle.std.specs.Io.KnownBytes.{Keeps}
use Rattle.clk_io.proofs.reader_source.read_again.Given as goal

-- the buffer keeps its length, and the reads so far took nothing
abbrev pub invariant-loop : goal.invariant-loop
invariant-loop g l = (length l.into ≡ length l.fn.into) × Keeps (g.R.Read.remaining l.fn.reader) (g.R.Read.remaining l.reader)
