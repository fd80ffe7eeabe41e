use Rattle.std.proofs.Common.{◌+◌, drop, ap, ◌∙◌, arith}
use Rattle.std.proofs.lemmas.List.{at_drop_all}
use Rattle.dts_tokens.specs.declared.token.Token.{Token}
use Rattle.dts_tree.specs.Grown.{◌>>=◌}
use Rattle.dts_tree.specs.State.{state_of}
use Rattle.dts_tree.specs.Steps.{run}
use Rattle.dts_tree.proofs.Going.{Fails-bind, run-more, run-end}
use Rattle.dts_tree.proofs.reading.run.Goals as goal

pub returns-in-Err : goal.returns-in-Err
returns-in-Err c =
    let text = c.args.text.now in
    let d : Token = record { from = 0; to = 0; line = 0 } in
    let e = c.loop-token.invariant ∙ run-more text c.args.tokens.now (state_of c.loop-token.reader) c.loop-token.token-index d (omega arith) in
    rw e (Fails-bind c.in-Err.fault _ (run text (drop (c.loop-token.token-index + 1) c.args.tokens.now)) c.in-Err.ensures)

pub loop-token-preserved : goal.loop-token-preserved
loop-token-preserved c =
    let text = c.args.text.now in
    let d : Token = record { from = 0; to = 0; line = 0 } in
    c.loop-token.invariant ∙ run-more text c.args.tokens.now (state_of c.loop-token.reader) c.loop-token.token-index d (omega arith)
    ∙ ap (λ r. r >>= run text (drop (c.loop-token.token-index + 1) c.args.tokens.now)) c.in-Ok.ensures

pub returns : goal.returns
returns c =
    c.loop-token.invariant ∙ at_drop_all (λ ts. run c.args.text.now ts (state_of c.loop-token.reader)) c.args.tokens.now c.loop-token.token-index (omega arith) ∙ run-end c.args.text.now (state_of c.loop-token.reader)
