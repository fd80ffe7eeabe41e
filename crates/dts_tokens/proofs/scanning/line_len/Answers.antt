use Rattle.std.proofs.Common.{◌==◌, sym, rules, arith}
use Rattle.std.proofs.lemmas.List.Sums.{position_or_len_is}
use Rattle.dts_tokens.specs.Pieces.{line_len}
use Rattle.dts_tokens.proofs.scanning.line_len.Goals as goal

pub returns-then-byte-eq10-clause-len : goal.returns-then-byte-eq10-clause-len
unfolding line_len
returns-then-byte-eq10-clause-len c =
    sym (position_or_len_is (λ b. b == 10) c.args.text.now c.loop-index.index 0 (omega arith) c.loop-index.invariant (λ _. search rules))

pub returns-clause-len : goal.returns-clause-len
unfolding line_len
returns-clause-len c =
    sym (position_or_len_is (λ b. b == 10) c.args.text.now _ 0 (omega arith) (λ k h. c.loop-index.invariant k (omega arith)) (λ h. absurd (omega arith)))
