use Rattle.std.proofs.Common.{◌∙◌, ap, sym, ◌==◌}
use Rattle.std.specs.List.{slice_split}
use Rattle.bundle_text.proofs.Cuts.{spaced_words-utf8, spaced_words-other}
use Rattle.bundle_text.proofs.text_lines.words_of.Goals as goal

pub returns-in_default : goal.returns-in_default
returns-in_default c =
    simp c.new.ensures.items (sym (spaced_words-other c.args.line.now (c.in_default.ensures.cases.0)))

pub returns : goal.returns
returns c =
    let read = c.in-Ok.ensures.cases in
    c.in_ok-parts_of.ensures ∙ ap (slice_split (λ b. b == 32)) read.0 ∙ sym (spaced_words-utf8 c.args.line.now read.1)
