use Rattle.std.proofs.Common.{sym, rules, arith}
use Rattle.std.proofs.lemmas.List.Sums.{prefix_len_is}
use Rattle.dts_tokens.specs.Characters.{is_label_character}
use Rattle.dts_tokens.specs.Pieces.{label_len}
use Rattle.dts_tokens.proofs.scanning.label_len.Goals as goal

pub returns-then-not-is_label_character-clause-len : goal.returns-then-not-is_label_character-clause-len
unfolding label_len
returns-then-not-is_label_character-clause-len c =
    sym (prefix_len_is is_label_character c.args.text.now c.loop-index.index 0 (omega arith) c.loop-index.invariant (λ _. search rules))

pub returns-clause-len : goal.returns-clause-len
unfolding label_len
returns-clause-len c =
    sym (prefix_len_is is_label_character c.args.text.now _ 0 (omega arith) (λ k h. c.loop-index.invariant k (omega arith)) (λ h. absurd (omega arith)))
