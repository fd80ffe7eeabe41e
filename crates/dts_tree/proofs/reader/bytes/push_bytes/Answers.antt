use Rattle.std.proofs.Common.{◌++◌, sym, ap, ◌∙◌, arith}
use Rattle.std.proofs.lemmas.List.{append-nil}
use Rattle.dts_tree.proofs.Going.{bytes_of-short}
use Rattle.dts_tree.proofs.reader.bytes.push_bytes.Goals as goal

pub returns-clause-pushed : goal.returns-clause-pushed
returns-clause-pushed c =
    let short = bytes_of-short c.loop-rest.rest.now (omega (arith, c.in_default.len_below)) in
    sym (append-nil c.loop-rest.items.items) ∙ (ap (λ b. c.loop-rest.items.items ++ b) (sym short) ∙ c.loop-rest.invariant)
