use Rattle.std.proofs.Common.{sym, rules, arith}
use Rattle.std.proofs.lemmas.List.Sums.{prefix_len_is}
use Rattle.dts_tokens.specs.Characters.{is_word_character}
use Rattle.dts_tokens.proofs.scanning.run_len.Goals as goal

pub returns-then-not-is_word_character-clause-run : goal.returns-then-not-is_word_character-clause-run
returns-then-not-is_word_character-clause-run c =
    sym (prefix_len_is is_word_character c.args.text.now c.loop-index.index 0 (omega arith) c.loop-index.invariant (λ _. search rules))

pub returns-clause-run : goal.returns-clause-run
returns-clause-run c =
    sym (prefix_len_is is_word_character c.args.text.now _ 0 (omega arith) (λ k h. c.loop-index.invariant k (omega arith)) (λ h. absurd (omega arith)))
