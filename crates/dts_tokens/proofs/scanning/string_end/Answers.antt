use Rattle.std.proofs.Common.{rules, arith}
use Rattle.dts_tokens.proofs.Scans.{quote_end-here, quote_end-more, quote_end-skip, quote_end-none}
use Rattle.dts_tokens.proofs.scanning.string_end.Goals as goal
use Rattle.dts_tokens.proofs.scanning.string_end.Goals.{then-taken, else-taken+else-byte-eq34}

pub returns-then-byte-eq34-clause-end : goal.returns-then-byte-eq34-clause-end
returns-then-byte-eq34-clause-end c =
    quote_end-here c.args.text.now c.loop-index.index (omega arith) (search rules) (rw c.if-taken.false at c.loop-index.invariant)

pub loop-index-preserved : goal.loop-index-preserved
loop-index-preserved c =
    let text = c.args.text.now in
    let i = c.loop-index.index in
    elim c.if-taken.branch [
      | then-taken w ↦ rw w.taken-is (quote_end-skip text i (omega arith) (rw w.if-taken.true at c.loop-index.invariant))
      | else-taken+else-byte-eq34 w ↦ rw w.taken-is (quote_end-more text i (omega arith) (search rules) (rw w.if-taken.false at c.loop-index.invariant))
    ]

pub returns-clause-end : goal.returns-clause-end
returns-clause-end c = quote_end-none c.args.text.now c.loop-index.index c.loop-index.taken (omega arith) c.loop-index.invariant
