use Rattle.std.proofs.Common.{◌∙◌, ap, ◌++◌}
use Rattle.std.specs.List.{filter_map}
use Rattle.bundle_text.specs.Words.{texts, as_word}
use Rattle.bundle_text.proofs.BlankWords.{words-first}
use Rattle.bundle_text.proofs.text_lines.words_between_blanks.Goals as goal

pub loop-part-init : goal.loop-part-init
loop-part-init c =
    ap (λ ws. texts ws ++ filter_map as_word (texts c.deref-part-items.result.now)) c.new-words.ensures.items
    ∙ ap (λ ps. filter_map as_word (texts ps)) c.deref-part-items.ensures.value
    ∙ words-first (texts c.in_ok-parts.parts.items) c.args.line.now c.in_ok-parts.ensures
