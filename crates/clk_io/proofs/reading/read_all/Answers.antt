use Rattle.std.proofs.Common.{◌++◌, take, arith, length-append}
use Rattle.std.proofs.KnownBytes.{Consumes-trans}
use Rattle.clk_io.proofs.reading.read_all.Goals as goal

-- what was read before, and what this read gave, is more than the limit
pub returns-then-count-len-clause-too_long : goal.returns-then-count-len-clause-too_long
returns-then-count-len-clause-too_long g c = λ _.
    let was = c.loop-bytes.invariant in
    let more = take c.in_ok-count.count c.read.new.into in
    (c.loop-bytes.bytes.items ++ more, simp length-append (omega (arith, c.loop-bytes.bytes.ok.0, c.in_ok-count.ensures.bound.1)), Consumes-trans _ _ _ _ _ was.taken c.in_ok-count.ensures.bytes.0)

-- the same bytes, of which no room was left for the last
pub returns-in_err-extend_from_slice-clause-other_memory :
    goal.returns-in_err-extend_from_slice-clause-other_memory
returns-in_err-extend_from_slice-clause-other_memory g c = λ _.
    let was = c.loop-bytes.invariant in
    let more = take c.in_ok-count.count c.read.new.into in
    (c.loop-bytes.bytes.items ++ more, simp length-append (omega (arith, c.loop-bytes.bytes.ok.0, c.in_ok-count.ensures.bound.1)), Consumes-trans _ _ _ _ _ was.taken c.in_ok-count.ensures.bytes.0)
