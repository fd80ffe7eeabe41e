use Rattle.std.proofs.Common.{sym, ◌∙◌, rules, arith}
use Rattle.std.proofs.lemmas.List.{take_rest}
use Rattle.dts_tokens.proofs.Scans.{comment_end-here, comment_end-more, comment_end-none}
use Rattle.dts_tokens.proofs.scanning.comment_end.Goals as goal

pub returns-then-closes-clause-end : goal.returns-then-closes-clause-end
returns-then-closes-clause-end c =
    comment_end-here c.args.text.now c.loop-index.index (omega arith) (search rules) c.loop-index.invariant

pub loop-index-preserved : goal.loop-index-preserved
loop-index-preserved c =
    comment_end-more c.args.text.now c.loop-index.index (omega arith) (rw (← take_rest c.args.text.now c.loop-index.index) (sym c.closes.ensures ∙ c.if-closes.false)) c.loop-index.invariant

pub returns-clause-end : goal.returns-clause-end
returns-clause-end c = comment_end-none c.args.text.now c.loop-index.index (omega arith) c.loop-index.invariant
