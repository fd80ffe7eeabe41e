use Rattle.std.specs.Io.KnownBytes.{Keeps}
use Rattle.clk_io.proofs.writer_sink.write_again.Given as goal

-- the writes so far appended nothing
abbrev pub invariant-loop : goal.invariant-loop
invariant-loop g l = Keeps (g.W.Write.contents l.fn.writer) (g.W.Write.contents l.writer)
